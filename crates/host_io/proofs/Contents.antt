-- Contents as functions from paths: what an insert into the map that keeps them changes.
use Rattle.std.proofs.Common.{◌≡◌, ℕ, Bool, true, false, cond, List, Option, Some, Vec, String, refl, sym, ap, subst, arith, ◌∙◌}
use Rattle.std.specs.Option.{option_map}
use Rattle.std.specs.Map.{update}
use Rattle.std.specs.Str.{bytes_eq}
use Rattle.std.specs.String.{string_bytes, string_cmp}
use Rattle.std.specs.BTreeMap.{BTreeMap, Updates, get_by_text}
use Rattle.std.specs.declared.alloc.Global.{Global}
use Rattle.std.proofs.lemmas.Map.Text.{btree_map_updates_text}
use Rattle.std.proofs.lemmas.Slice.Eq.{bytes_eq-Decides}
use Rattle.host_io.specs.Files.{Contents, FilesState, FailsToStore, with_file}
use Rattle.host_io.specs.After.{with_failure}

-- the contents that a map keeps
abbrev pub kept : BTreeMap (String Global) (Vec ℕ Global) → Contents
kept m path = option_map (λ bytes. bytes.items) (get_by_text m path)

option_map-cond : {A B : Type 0} (f : A → B) (b : Bool) (x y : Option A) → option_map f (cond b x y) ≡ cond b (option_map f x) (option_map f y)
option_map-cond f true x y = refl
option_map-cond f false x y = refl

-- after an insert they are updated at its path
pub kept-insert : (m n : BTreeMap (String Global) (Vec ℕ Global)) (name : String Global) (value : Vec ℕ Global) (path bytes : List ℕ) → string_bytes name ≡ path → value.items ≡ bytes → Updates string_cmp m n name (Some value) → kept n ≡ update bytes_eq (kept m) path (Some bytes)
kept-insert m n name value path bytes named same updates =
    let at_name : kept n ≡ update bytes_eq (kept m) (string_bytes name) (Some value.items) =
    λ i q. (ap (option_map (λ bytes. bytes.items)) (btree_map_updates_text (string_bytes name) m n (Some value) updates q) ∙ option_map-cond (λ bytes. bytes.items) (bytes_eq (string_bytes name) q) (Some value) (get_by_text m q)) i in
    at_name ∙ ap (λ p. update bytes_eq (kept m) p (Some value.items)) named ∙ ap (λ b. update bytes_eq (kept m) path (Some b)) same

same_at : (files : Contents) (path q : List ℕ) (b : Bool) → bytes_eq path q ≡ b → files q ≡ cond b (files path) (files q)
same_at files path q true e = ap files (sym ((bytes_eq-Decides path q).0 e))
same_at files path q false e = refl

-- an update by what is there changes nothing
pub update-same : (files : Contents) (path : List ℕ) → files ≡ update bytes_eq files path (files path)
update-same files path = λ i q. same_at files path q (bytes_eq path q) refl i

failure_noted : (files : Contents) (old : FilesState) (path : List ℕ) → old.contents ≡ Some files → FailsToStore path old (with_failure path old)
failure_noted files old path told = record {
  failed = record { faults = omega arith; failed_paths = refl };
  left = files path;
  contents = told ∙ ap Some (update-same files path) ∙ ap (with_file path (files path)) (sym told);
}

-- a store that only noted its failure left what was there
pub fails_to_store : (files : Contents) (old new : FilesState) (path : List ℕ) → old.contents ≡ Some files → new ≡ with_failure path old → FailsToStore path old new
fails_to_store files old new path told noted =
    let P : FilesState → Type 0 = λ s. FailsToStore path old s in
    subst P (sym noted) (failure_noted files old path told)
