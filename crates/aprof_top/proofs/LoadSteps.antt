-- One more file of a command.
use Rattle.std.proofs.Common.{◌≡◌, ℕ, zero, suc, ◌+◌, ◌<◌, ◌≤◌, Bool, true, false, ◌||◌, List, [], ◌∷◌, ◌++◌, Option, Some, None, refl, sym, ap, ap₂, ◌∙◌, inl, inr, arith, append-nil, get_or, length, map, subst}
use Rattle.std.specs.Prelude.{IsSomeAnd, filter, fold, if◌then◌else◌, nat_lt, replicate, slice_get, sum_by, zip}
use Rattle.std.specs.List.{AllByRecursion, list_any}
use Rattle.std.proofs.lemmas.Bool.Decides.{nat_tests}
use Rattle.std.proofs.lemmas.List.{length-append, length-replicate}
use Rattle.std.proofs.lemmas.List.Elements.{filter-append}
use Rattle.std.proofs.lemmas.List.Folds.{list_any-append}
use Rattle.std.proofs.lemmas.List.Sums.{fold-append, sum_by-append}
use Rattle.guest_kernel.specs.Inputs.{with_input}
use Rattle.host_io.specs.Files.{Contents, ExceedsLimit, FailsAt, FilesState, GivesFile, Holds, HoldsMore}
use Rattle.aprof_top.specs.Limits.{inputs_limit}
use Rattle.aprof_top.specs.Loads.{Load, Loaded, file_for, inputs_of, is, is_shared, limit_of, load, loaded_for, loaded_of, passes_limit, paths_in, shared_bytes}
use Rattle.aprof_top.specs.Outside.{AreHeld, MetTooLong}
use Rattle.aprof_top.specs.Private.Loading.{AreFirst, AreWithin, FileEnds, LoadsEnd, PassesLimit, load_in, used_for, no_files, with_file}
use Rattle.aprof_top.specs.declared.ending.CommandEnding.{CommandEnding}
use Rattle.aprof_top.specs.declared.ending.CommandEnding.TheVariants.{CannotRead, Ended}
use Rattle.aprof_top.specs.declared.ending.Ending.TheVariants.{Decided, CannotWrite, CannotPut, OutOfMemory}
use Rattle.aprof_top.specs.declared.source.Load as declared
use Rattle.aprof_top.specs.declared.source.Source.{Source}
use Rattle.aprof_top.specs.declared.source.Source.TheVariants.{Image, Input, Stdin, Schedule, Trace}

-- a load with what it gave
abbrev File : Type 0
File = Load × List ℕ

abbrev is_long : File → Bool
is_long file = nat_lt (limit_of file.0.source) (length file.1)

abbrev IsShort : File → Type 0
IsShort file = length file.1 ≤ limit_of file.0.source

-- ---- lists with one more at the end
all_more : (files : List File) (file : File) → AllByRecursion IsShort files → IsShort file → AllByRecursion IsShort (files ++ file ∷ [])
all_more [] file all one = (one, tt)
all_more (f ∷ files) file (short, all) one = (short, all_more files file all one)

none_long : (files : List File) → AllByRecursion IsShort files → list_any is_long files ≡ false
none_long [] all = refl
none_long (f ∷ files) (short, all) = rw test (none_long files all)
  where
    test : is_long f ≡ false
    test = grind (arith, nat_tests, short)

zip_none : (loads : List Load) → zip {X = List ℕ} loads [] ≡ []
zip_none [] = refl
zip_none (l ∷ loads) = refl

zip_more : (loads : List Load) (files : List (List ℕ)) (next : Load) (bytes : List ℕ) → slice_get loads (length files) ≡ Some next → zip loads (files ++ bytes ∷ []) ≡ zip loads files ++ (next, bytes) ∷ []
zip_more [] [] next bytes is = absurd (cc)
zip_more [] (f ∷ files) next bytes is = absurd (cc)
zip_more (l ∷ loads) [] next bytes is = ap₂ (λ one rest. (one, bytes) ∷ rest) (same l next is) (zip_none loads)
  where
    same : (a b : Load) → Some a ≡ Some b → a ≡ b
    same a b e = cc
zip_more (l ∷ loads) (f ∷ files) next bytes is = ap (λ rest. (l, f) ∷ rest) (zip_more loads files next bytes is)

-- the next load, as the program has it
pub load_at : (loads : List declared.Load) (i : ℕ) (d : declared.Load) → i < length loads → slice_get (map load_in loads) i ≡ Some (load_in (get_or loads i d))
load_at [] i d within = absurd (omega (arith, within))
load_at (l ∷ loads) zero d within = refl
load_at (l ∷ loads) (suc i) d within = load_at loads i d (omega (arith, within))

-- the path of the next load
path_at : (loads : List Load) (i : ℕ) (next : Load) → slice_get loads i ≡ Some next → slice_get (paths_in loads) i ≡ Some next.path
path_at [] i next is = absurd (cc)
path_at (l ∷ loads) zero next is = ap (λ o. by o) is
  where
    by : Option Load → Option (List ℕ)
    by None = None
    by (Some l) = Some l.path
path_at (l ∷ loads) (suc i) next is = path_at loads i next is

-- ---- limits
module _ (loads : List Load) (files : List (List ℕ)) where
  not_past : AreWithin loads files → sum_by shared_bytes (zip loads files) ≤ inputs_limit → passes_limit loads files ≡ false
  not_past all small = rw (none_long (zip loads files) all) test
    where
      test : nat_lt inputs_limit (sum_by shared_bytes (zip loads files)) ≡ false
      test = grind (arith, nat_tests, small)

  past_sum : inputs_limit < sum_by shared_bytes (zip loads files) → passes_limit loads files ≡ true
  past_sum large = by (list_any is_long (zip loads files)) (nat_lt inputs_limit (sum_by shared_bytes (zip loads files))) test
    where
      test : nat_lt inputs_limit (sum_by shared_bytes (zip loads files)) ≡ true
      test = grind (arith, nat_tests, large)

      by : (a b : Bool) → b ≡ true → (a || b) ≡ true
      by true b e = refl
      by false b e = e

-- ---- what is held
held_more : (contents : Option Contents) (paths files : List (List ℕ)) (path file : List ℕ) → AreHeld contents paths files → slice_get paths (length files) ≡ Some path → Holds contents path file → AreHeld contents paths (files ++ file ∷ [])
held_more contents [] [] path file held next one = absurd (cc)
held_more contents (p ∷ paths) [] path file held next one = (subst (λ q. Holds contents q file) (some_same path p (sym next)) one, tt)
  where
    some_same : (x y : List ℕ) → Some x ≡ Some y → x ≡ y
    some_same x y e = cc
held_more contents [] (f ∷ files) path file held next one = absurd held
held_more contents (p ∷ paths) (f ∷ files) path file (here, held) next one = (here, held_more contents paths files path file held next one)

-- a file that is longer than the limit, where the object tells no contents
unfoldable long_file : ℕ → List ℕ
long_file most = replicate (most + 1) 0

long_file-long : (most : ℕ) → most < length (long_file most)
unfolding long_file
long_file-long most = let e = length-replicate {A = ℕ} (most + 1) 0 in omega (arith, e)

-- ---- which is which
module _ (loads : List Load) (files : List (List ℕ)) (source : Source) (path bytes : List ℕ) (next : slice_get loads (length files) ≡ Some (load source path)) where
  abbrev more : List (List ℕ)
  more = files ++ bytes ∷ []

  for_more : (which : Source) → loaded_for which loads more ≡ loaded_for which loads files ++ filter (λ (file : File). is which file.0.source) ((load source path, bytes) ∷ [])
  for_more which =
      ap (filter (λ (file : File). is which file.0.source)) (zip_more loads files (load source path) bytes next)
      ∙ filter-append (λ (file : File). is which file.0.source) (zip loads files) ((load source path, bytes) ∷ [])

  -- it is that file, or is as it was
  file_same : (which : Source) → is which source ≡ true → file_for which loads more ≡ bytes
  file_same which same =
      ap (fold (λ before (file : File). file.1) []) (for_more which ∙ ap (λ b. loaded_for which loads files ++ (if b then (load source path, bytes) ∷ [] else [])) same)
      ∙ fold-append (λ before (file : File). file.1) [] (loaded_for which loads files) ((load source path, bytes) ∷ [])

  for_other : (which : Source) → is which source ≡ false → loaded_for which loads more ≡ loaded_for which loads files
  for_other which other =
      for_more which ∙ ap (λ b. loaded_for which loads files ++ (if b then (load source path, bytes) ∷ [] else [])) other ∙ append-nil (loaded_for which loads files)

  file_other : (which : Source) → is which source ≡ false → file_for which loads more ≡ file_for which loads files
  file_other which other = ap (fold (λ before (file : File). file.1) []) (for_other which other)

  inputs_other : is Input source ≡ false → inputs_of (loaded_for Input loads more) ≡ inputs_of (loaded_for Input loads files)
  inputs_other other = ap inputs_of (for_other Input other)

  inputs_same : is Input source ≡ true → inputs_of (loaded_for Input loads more) ≡ with_input (inputs_of (loaded_for Input loads files)) path bytes
  inputs_same same =
      ap inputs_of (for_more Input ∙ ap (λ b. loaded_for Input loads files ++ (if b then (load source path, bytes) ∷ [] else [])) same)
      ∙ fold-append (λ before (file : File). with_input before file.0.path file.1) [] (loaded_for Input loads files) ((load source path, bytes) ∷ [])

loaded_more : (loads : List Load) (files : List (List ℕ)) (source : Source) (path bytes : List ℕ) → slice_get loads (length files) ≡ Some (load source path) → used_for source path bytes (loaded_of loads files) ≡ loaded_of loads (files ++ bytes ∷ [])
loaded_more loads files Image path bytes next = sym (λ i. record {
  image = file_same loads files Image path bytes next Image refl i;
  inputs = inputs_other loads files Image path bytes next refl i;
  stdin = file_other loads files Image path bytes next Stdin refl i;
  schedule = file_other loads files Image path bytes next Schedule refl i;
  trace = file_other loads files Image path bytes next Trace refl i;
})
loaded_more loads files Input path bytes next = sym (λ i. record {
  image = file_other loads files Input path bytes next Image refl i;
  inputs = inputs_same loads files Input path bytes next refl i;
  stdin = file_other loads files Input path bytes next Stdin refl i;
  schedule = file_other loads files Input path bytes next Schedule refl i;
  trace = file_other loads files Input path bytes next Trace refl i;
})
loaded_more loads files Stdin path bytes next = sym (λ i. record {
  image = file_other loads files Stdin path bytes next Image refl i;
  inputs = inputs_other loads files Stdin path bytes next refl i;
  stdin = file_same loads files Stdin path bytes next Stdin refl i;
  schedule = file_other loads files Stdin path bytes next Schedule refl i;
  trace = file_other loads files Stdin path bytes next Trace refl i;
})
loaded_more loads files Schedule path bytes next = sym (λ i. record {
  image = file_other loads files Schedule path bytes next Image refl i;
  inputs = inputs_other loads files Schedule path bytes next refl i;
  stdin = file_other loads files Schedule path bytes next Stdin refl i;
  schedule = file_same loads files Schedule path bytes next Schedule refl i;
  trace = file_other loads files Schedule path bytes next Trace refl i;
})
loaded_more loads files Trace path bytes next = sym (λ i. record {
  image = file_other loads files Trace path bytes next Image refl i;
  inputs = inputs_other loads files Trace path bytes next refl i;
  stdin = file_other loads files Trace path bytes next Stdin refl i;
  schedule = file_other loads files Trace path bytes next Schedule refl i;
  trace = file_same loads files Trace path bytes next Trace refl i;
})

none_loaded : (loads : List Load) → no_files ≡ loaded_of loads []
none_loaded [] = refl
none_loaded (l ∷ loads) = refl

-- ---- the steps of the loads
-- This many files were loaded, within their limits; those that share a limit have this many bytes.
pub record IsLoading (loads : List Load) (count sum : ℕ) (loaded : Loaded) (old now : FilesState) : Type 0 where
  pub files : List (List ℕ)
  pub count_is : length files ≡ count
  pub first : AreFirst loads files old
  pub sum_is : sum ≡ sum_by shared_bytes (zip loads files)
  pub loaded_is : loaded ≡ loaded_of loads files
  pub same : now ≡ old

pub IsLoading-none : (loads : List Load) (loaded : Loaded) (old : FilesState) → loaded ≡ no_files → IsLoading loads 0 0 loaded old old
IsLoading-none loads loaded old none = record {
  files = [];
  count_is = refl;
  first = record { held = tt; each = subst (AllByRecursion IsShort) (sym (zip_none loads)) tt; few = not_past loads [] (subst (AllByRecursion IsShort) (sym (zip_none loads)) tt) (subst (λ files. sum_by shared_bytes files ≤ inputs_limit) (sym (zip_none loads)) (omega arith)) };
  sum_is = ap (sum_by shared_bytes) (sym (zip_none loads));
  loaded_is = none ∙ none_loaded loads;
  same = refl;
}

module _ (loads : List Load) (count sum : ℕ) (loaded : Loaded) (next : Load) (old mid now : FilesState) (so_far : IsLoading loads count sum loaded old mid) (next_is : slice_get loads count ≡ Some next) where
  abbrev files : List (List ℕ)
  files = so_far.files

  next_at : slice_get loads (length files) ≡ Some next
  next_at = ap (slice_get loads) so_far.count_is ∙ next_is

  next_path : slice_get (paths_in loads) (length files) ≡ Some next.path
  next_path = path_at loads (length files) next next_at

  -- one more file was loaded
  module _ (bytes : List ℕ) (gives : GivesFile next.path (limit_of next.source) bytes mid now) (size counted : ℕ) (size_is : size ≡ length bytes)
      (counted_is : counted ≡ (if is_shared next.source then size else 0)) where
    abbrev total : ℕ
    total = sum + counted

    abbrev files_now : List (List ℕ)
    files_now = files ++ bytes ∷ []

    held_now : AreHeld old.contents (paths_in loads) files_now
    held_now = held_more old.contents (paths_in loads) files next.path bytes so_far.first.held next_path (subst (λ (known : FilesState). Holds known.contents next.path bytes) so_far.same gives.held)

    each_now : AreWithin loads files_now
    each_now = subst (AllByRecursion IsShort) (sym (zip_more loads files next bytes next_at)) (all_more (zip loads files) (next, bytes) so_far.first.each gives.limit)

    total_now : total ≡ sum_by shared_bytes (zip loads files_now)
    total_now =
        ap₂ ◌+◌ so_far.sum_is (counted_is ∙ ap (λ n. if is_shared next.source then n else 0) size_is ∙ one (next, bytes))
        ∙ sym (sum_by-append shared_bytes (zip loads files) ((next, bytes) ∷ []))
        ∙ ap (sum_by shared_bytes) (sym (zip_more loads files next bytes next_at))
      where
        one : (file : File) → shared_bytes file ≡ sum_by shared_bytes (file ∷ [])
        one file = omega arith

    same_now : now ≡ old
    same_now = gives.same ∙ so_far.same

    pub IsLoading-more : total ≤ inputs_limit → IsLoading loads (count + 1) total (with_file next bytes loaded) old now
    IsLoading-more small = record {
      files = files_now;
      count_is = length-append files (bytes ∷ []) ∙ ap (λ n. n + 1) so_far.count_is;
      first = record { held = held_now; each = each_now; few = not_past loads files_now each_now (subst (λ n. n ≤ inputs_limit) total_now small) };
      sum_is = total_now;
      loaded_is = ap (with_file next bytes) so_far.loaded_is ∙ loaded_more loads files next.source next.path bytes next_at;
      same = same_now;
    }

    pub PassesLimit-together : inputs_limit < total → PassesLimit loads old now
    PassesLimit-together large = record {
      files = files_now;
      held = held_now;
      limit = inl each_now;
      many = past_sum loads files_now (subst (λ n. inputs_limit < n) total_now large);
      unchanged = inl same_now;
    }

  -- a file is longer than the limit
  PassesLimit-long : (bytes : List ℕ) → limit_of next.source < length bytes → Holds old.contents next.path bytes → MetTooLong old now → PassesLimit loads old now
  PassesLimit-long bytes long held met = record {
    files = files ++ bytes ∷ [];
    held = held_more old.contents (paths_in loads) files next.path bytes so_far.first.held next_path held;
    limit = inr met.oversized;
    many = past;
    unchanged = inr met;
  }
    where
      either : (a b c : Bool) → b ≡ true → ((a || (b || false)) || c) ≡ true
      either true b c e = refl
      either false true c e = refl
      either false false c e = absurd (cc)

      test : is_long (next, bytes) ≡ true
      test = grind (arith, nat_tests, long)

      past : passes_limit loads (files ++ bytes ∷ []) ≡ true
      past =
          ap (λ files'. list_any is_long files' || nat_lt inputs_limit (sum_by shared_bytes (zip loads (files ++ bytes ∷ [])))) (zip_more loads files next bytes next_at)
          ∙ ap (λ b. b || nat_lt inputs_limit (sum_by shared_bytes (zip loads (files ++ bytes ∷ [])))) (list_any-append is_long (zip loads files) ((next, bytes) ∷ []))
          ∙ either (list_any is_long (zip loads files)) (is_long (next, bytes)) (nat_lt inputs_limit (sum_by shared_bytes (zip loads (files ++ bytes ∷ [])))) test

  -- the file that was met
  PassesLimit-met : now.contents ≡ mid.contents → ExceedsLimit next.path (limit_of next.source) mid now → PassesLimit loads old now
  PassesLimit-met contents met = by old.contents refl longer
    where
      too_long : MetTooLong old now
      too_long = subst (λ f. MetTooLong f now) so_far.same (record { contents = contents; failed_paths = met.failed_paths; oversized = met.oversized })

      longer : HoldsMore old.contents next.path (limit_of next.source)
      longer = subst (λ (f : FilesState). HoldsMore f.contents next.path (limit_of next.source)) so_far.same met.longer

      by_file : (known : Contents) (o : Option (List ℕ)) → old.contents ≡ Some known → known next.path ≡ o → IsSomeAnd o (λ bytes. limit_of next.source < length bytes) → PassesLimit loads old now
      by_file known None is there longer = absurd longer
      by_file known (Some bytes) is there longer = PassesLimit-long bytes longer (subst (λ c. Holds c next.path bytes) (sym is) there) too_long

      by : (c : Option Contents) → old.contents ≡ c → HoldsMore c next.path (limit_of next.source) → PassesLimit loads old now
      by None is longer = PassesLimit-long (long_file (limit_of next.source)) (long_file-long (limit_of next.source)) (subst (λ c. Holds c next.path (long_file (limit_of next.source))) (sym is) tt) too_long
      by (Some known) is longer = by_file known (known next.path) is refl longer

  -- the load ended the command
  pub LoadsEnd-next : (e : CommandEnding) → FileEnds next mid now e → LoadsEnd loads old now e
  LoadsEnd-next (CannotRead failed) (is, fails, contents) = record {
    files = files;
    first = so_far.first;
    next = next_path ∙ ap (λ (l : Load). Some l.path) (sym is);
    failed = subst (λ path. FailsAt path old now) (ap (λ (l : Load). l.path) (sym is)) (subst (λ f. FailsAt next.path f now) so_far.same fails);
    contents = contents ∙ ap (λ (f : FilesState). f.contents) so_far.same;
  }
  LoadsEnd-next (Ended (Decided verdict)) (too_large, met, contents) = (too_large, PassesLimit-met contents met)
  LoadsEnd-next (Ended OutOfMemory) same = same ∙ so_far.same
  LoadsEnd-next (Ended CannotWrite) fails = absurd fails
  LoadsEnd-next (Ended CannotPut) fails = absurd fails
