-- What the commands beside `run` make of a run, and what becomes of it.
use Rattle.std.proofs.Common.{◌≡◌, ◌∙◌, ◌<◌, ◌≤◌, ℕ, Bool, true, List, [], ◌∷◌, ◌++◌, Option, Some, None, refl, ap, sym, subst, length, arith}
use Rattle.std.specs.Prelude.{if◌then◌else◌, Err, Result}
use Rattle.std.proofs.lemmas.Bool.Decides.{nat_tests}
use Rattle.std.specs.List.{All, flat_map}
use Rattle.std.specs.Option.{option_map, option_to_list}
use Rattle.std.proofs.lemmas.List.Elements.{All-cons, All-nil, All-tail}
use Rattle.std.proofs.lemmas.List.Kept.{AllPairs-cons}
use Rattle.cost_points.specs.Keys as keys
use Rattle.cost_points.proofs.Rising.{IsRising-above, IsRising-rising, IsRising-tail}
use Rattle.elf_image.specs.Image.{Executable, name_of}
use Rattle.guest_run.specs.ObservedRun.{ObservedRun}
use Rattle.stored_traces.specs.Entries.{entries_begun, entry_begun}
use Rattle.trace_file.specs.TraceText.{IsRising, Names}
use Rattle.trace_model.specs.declared.event_kinds.Event.{Event}
use Rattle.host_io.specs.Files.{FilesState, StoreEnds}
use Rattle.host_io.specs.Sink.{SinkState}
use Rattle.host_io.specs.declared.files.StoreError.{StoreError}
use Rattle.host_io.specs.declared.files.StoreError.TheVariants as store
use Rattle.guest_words.specs.declared.limits.TheConstants.{TRACE_BYTES}
use Rattle.aprof_top.specs.declared.ending.Ending.{Ending}
use Rattle.aprof_top.specs.declared.ending.Verdict.{Verdict}
use Rattle.aprof_top.specs.Delivery.{StoreFails}
use Rattle.aprof_top.specs.Private.Ending.{of_store}
use Rattle.aprof_top.specs.Private.Jobs.{Desk, RunIsStored, desk}
use Rattle.aprof_top.specs.Outcome.{Left, Outcome, one_file, run_outcome}
use Rattle.aprof_top.specs.Traces.{is_storable, named_entries}

-- a trace that is stored, and one that is too long
pub storable : (text : List ℕ) → length text ≤ TRACE_BYTES → is_storable text ≡ true
storable text short = grind (arith, nat_tests, short)

-- ---- the names rise
above_one : (n e : ℕ) (o : Option (List ℕ)) (rest : Names) → n < e → All (λ (x : ℕ × List ℕ). n < x.0) rest
    → All (λ (x : ℕ × List ℕ). n < x.0) (option_to_list (option_map (λ (name : List ℕ). (e, name)) o) ++ rest)
above_one n e None rest less above = above
above_one n e (Some name) rest less above = All-cons (λ (x : ℕ × List ℕ). n < x.0) (e, name) rest less above

rise_one : (e : ℕ) (o : Option (List ℕ)) (rest : Names) → All (λ (x : ℕ × List ℕ). e < x.0) rest → IsRising rest
    → IsRising (option_to_list (option_map (λ (name : List ℕ). (e, name)) o) ++ rest)
rise_one e None rest above rise = rise
rise_one e (Some name) rest above rise = AllPairs-cons (λ (x y : ℕ × List ℕ). x.0 < y.0) (e, name) rest above rise

-- the names of higher entries are of higher entries
named_above : (image : Executable) (n : ℕ) (entries : List ℕ) → All (λ e. n < e) entries → All (λ (x : ℕ × List ℕ). n < x.0) (named_entries image entries)
named_above image n [] above = All-nil (λ (x : ℕ × List ℕ). n < x.0)
named_above image n (e ∷ es) above =
    above_one n e (name_of image e) (named_entries image es) (above 0 0 (omega arith)) (named_above image n es (All-tail (λ e. n < e) e es above))

pub names_rise : (image : Executable) (entries : List ℕ) → keys.IsRising entries → IsRising (named_entries image entries)
names_rise image [] rising = λ i j d less inside. absurd (omega arith)
names_rise image (e ∷ es) rising =
    rise_one e (name_of image e) (named_entries image es) (named_above image e es (IsRising-above e es rising)) (names_rise image es (IsRising-tail e es rising))

pub begun_rise : (image : Executable) (entries : List ℕ) (past : List Event) → entries ≡ entries_begun past → IsRising (named_entries image entries)
begun_rise image entries past are = names_rise image entries (subst keys.IsRising (sym are) (IsRising-rising (flat_map (λ e. option_to_list (entry_begun e)) past)))

-- ---- the store of a result failed
pub one_unstored : (outcome : Outcome) (path bytes : List ℕ) → outcome.stores ≡ (path, bytes) ∷ [] → (e : StoreError) (old new : FilesState) (err : SinkState)
    → StoreEnds path bytes old new (Err e) → RunIsStored outcome (desk old err) (desk new err) (Err (of_store e))
one_unstored outcome path bytes are store.Failed old new err fails = record {
  stored = subst (λ stores. StoreFails stores old new) (sym are) (record { count = 0; store = (path, bytes); next = refl; failed = fails });
  err = refl;
}
one_unstored outcome path bytes are store.Memory old new err same = record { stored = (0, same); err = refl }

-- ---- one file is made of a run
-- what is made of a run is this file
pub stored_left : (run : ObservedRun) (left : Option Left) (path bytes : List ℕ) → left ≡ Some (one_file path bytes) → (old new : Desk) (result : Result Verdict Ending)
    → RunIsStored (run_outcome run (Some (one_file path bytes))) old new result → RunIsStored (run_outcome run left) old new result
stored_left run left path bytes is old new result stored = subst (λ l. RunIsStored (run_outcome run l) old new result) (sym is) stored

pub either_left : (b : Bool) (path text bytes : List ℕ) → b ≡ true → bytes ≡ text → (if b then Some (one_file path text) else None) ≡ Some (one_file path bytes)
either_left b path text bytes fits is =
    ap (λ (b : Bool). if b then Some (one_file path text) else None) fits ∙ ap (λ (t : List ℕ). Some (one_file path t)) (sym is)
