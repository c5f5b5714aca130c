-- What sinks and files gain.
use Rattle.std.proofs.Common.{◌≡◌, ◌⊎◌, ℕ, List, [], ◌∷◌, ◌++◌, Option, Some, None, inl, inr, refl, sym, ap}
use Rattle.std.specs.Io.KnownBytes.{append_known}
use Rattle.std.proofs.lemmas.List.{append-nil}
use Rattle.host_io.specs.Files.{FilesState, stored_in}
use Rattle.host_io.specs.Sink.{SinkState, appended}
use Rattle.aprof_top.specs.Delivery.{DoesAll}
use Rattle.aprof_top.specs.Outcome.{Outcome}
use Rattle.aprof_top.specs.declared.ending.Verdict.TheVariants.{TooLarge}
use Rattle.aprof_top.specs.Outside.{MetTooLong, Outside, with_stores}

append_known-nothing : (known : Option (List ℕ)) → known ≡ append_known known []
append_known-nothing None = refl
append_known-nothing (Some bytes) = ap Some (sym (append-nil bytes))

-- nothing is gained by no bytes
pub appended-nothing : (sink : SinkState) → sink ≡ appended sink []
appended-nothing sink = ap (λ known. record { bytes = known; faults = sink.faults }) (append_known-nothing sink.bytes)

-- one more store
pub with_stores-more : (stores : List (List ℕ × List ℕ)) (s : List ℕ × List ℕ) (files : FilesState) → with_stores (stores ++ s ∷ []) files ≡ stored_in (with_stores stores files) s.0 s.1
with_stores-more [] s files = refl
with_stores-more (first ∷ stores) s files = with_stores-more stores s (stored_in files first.0 first.1)

-- stores raise no count
pub with_stores-faults : (stores : List (List ℕ × List ℕ)) (files : FilesState) → (with_stores stores files).faults ≡ files.faults
with_stores-faults [] files = refl
with_stores-faults (store ∷ stores) files = with_stores-faults stores (stored_in files store.0 store.1)

-- what the files hold where all was stored
pub done-contents : (outcome : Outcome) (before after : Outside) → DoesAll outcome before after → after.files.contents ≡ (with_stores outcome.stores before.files).contents
done-contents outcome before after does = by does.stored
  where
    by : (after.files ≡ with_stores outcome.stores before.files) ⊎ ((outcome.verdict ≡ TooLarge) × MetTooLong (with_stores outcome.stores before.files) after.files) → after.files.contents ≡ (with_stores outcome.stores before.files).contents
    by (inl same) = ap (λ (f : FilesState). f.contents) same
    by (inr (large, met)) = met.contents
