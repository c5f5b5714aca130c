-- The name of the first of several symbols that are read.
use Rattle.std.proofs.Common.{◌≡◌, ℕ, Bool, true, false, cond, eqb, List, [], ◌∷◌, get_or, map, filter, fold, Option, Some, None, if◌then◌else◌, refl, sym, ap, subst, ◌∙◌}
use Rattle.std.specs.List.{Contains, best_of}
use Rattle.std.specs.Option.{MatchOption, option_map}
use Rattle.std.specs.Ordering.{is_lt, nat_cmp}
use Rattle.std.specs.Cmp.Lexicographic.{slice_cmp}
use Rattle.std.proofs.lemmas.Cmp.{nat_list_cmp_total}
use Rattle.std.proofs.lemmas.List.{get_or_default}
use Rattle.std.proofs.lemmas.List.Elements.{Contains-get_or}
use Rattle.std.proofs.lemmas.List.MinMax.{IsFirstBest-from_best_of, ranks_by}
use Rattle.elf_image.specs.Symbols.{first_symbol, symbol_of}
use Rattle.rv_asm.specs.declared.executable.Symbol.{Symbol}
use Rattle.written_images.specs.Written.{IsLeast, names_at}
use Rattle.written_images.proofs.Entries.{Read, read}

abbrev less : List ℕ → List ℕ → Bool
less x y = is_lt (slice_cmp nat_cmp x y)

abbrev pub name_of : Option Read → Option (List ℕ)
name_of o = option_map (λ s. s.name) o

-- the symbols at an address are read in their order
filtered : (at : ℕ) (symbols : List Symbol) → filter (λ s. eqb s.value at) (map read symbols) ≡ map read (filter (λ s. eqb s.at at) symbols)
filtered at [] = refl
filtered at (x ∷ xs) = one (eqb x.at at) (filtered at xs)
  where
    one : (b : Bool) → filter (λ s. eqb s.value at) (map read xs) ≡ map read (filter (λ s. eqb s.at at) xs)
        → cond b (read x ∷ filter (λ s. eqb s.value at) (map read xs)) (filter (λ s. eqb s.value at) (map read xs))
        ≡ map read (cond b (x ∷ filter (λ s. eqb s.at at) xs) (filter (λ s. eqb s.at at) xs))
    one true rest = ap (λ ss. read x ∷ ss) rest
    one false rest = rest

-- the first of some symbols has the least of their names
first_is : (x : Symbol) (xs : List Symbol) → name_of (fold first_symbol (Some (read x)) (map read xs)) ≡ Some (best_of less x.name (map (λ s. s.name) xs))
first_is x [] = refl
first_is x (y ∷ ys) = one (less y.name x.name) (first_is y ys) (first_is x ys)
  where
    one : (b : Bool) → name_of (fold first_symbol (Some (read y)) (map read ys)) ≡ Some (best_of less y.name (map (λ s. s.name) ys))
        → name_of (fold first_symbol (Some (read x)) (map read ys)) ≡ Some (best_of less x.name (map (λ s. s.name) ys))
        → name_of (fold first_symbol (if b then Some (read y) else Some (read x)) (map read ys)) ≡ Some (best_of less (cond b y.name x.name) (map (λ s. s.name) ys))
    one true new old = new
    one false new old = old

least_is : (name : List ℕ) (names : List (List ℕ)) → IsLeast (name ∷ names) (best_of less name names)
least_is name names =
    let best = IsFirstBest-from_best_of {beats = less} (ranks_by nat_list_cmp_total (λ n. n)) name names in
    record {
      given = subst (λ n. Contains (name ∷ names) n) best.2 (Contains-get_or (name ∷ names) best.0 name best.1.0);
      least = λ k d inside. subst (λ n. less (get_or (name ∷ names) k d) n ≡ false) (get_or_default (name ∷ names) best.0 d name best.1.0 ∙ best.2) (best.1.1 k d inside);
    }

-- the name of the first of the symbols that are read, and the names of them all
all_read : (symbols : List Symbol) → MatchOption (name_of (fold first_symbol None (map read symbols))) (map (λ s. s.name) symbols ≡ []) (IsLeast (map (λ s. s.name) symbols))
all_read [] = refl
all_read (x ∷ xs) = subst (λ o. MatchOption o (map (λ s. s.name) (x ∷ xs) ≡ []) (IsLeast (map (λ s. s.name) (x ∷ xs)))) (sym (first_is x xs))
    (least_is x.name (map (λ s. s.name) xs))

pub names_read : (symbols : List Symbol) (at : ℕ) → MatchOption (name_of (symbol_of (map read symbols) at)) (names_at symbols at ≡ []) (IsLeast (names_at symbols at))
unfolding symbol_of
names_read symbols at = subst (λ ss. MatchOption (name_of (fold first_symbol None ss)) (names_at symbols at ≡ []) (IsLeast (names_at symbols at))) (sym (filtered at symbols))
    (all_read (filter (λ s. eqb s.at at) symbols))
