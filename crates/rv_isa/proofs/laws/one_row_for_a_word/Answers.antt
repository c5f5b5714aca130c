-- Each law is a test of the table, which computes, and a lemma that turns the test into the law.
use Rattle.std.proofs.Common.{◌≡◌, ℕ, zero, suc, Bool, true, false, ◌&&◌, not, List, [], ◌∷◌, get_or, nat_eq, bit_and, Some, None, refl, sym, ap, ◌∙◌, arith}
use Rattle.std.proofs.lemmas.Bool.{eqb-true, eq-eqb, and_parts, both_ways, not-true, cond-true, cond-false, false_from_ne_true}
use Rattle.std.proofs.lemmas.List.Sums.{AllPass-from_list_all}
use Rattle.std.proofs.lemmas.Nat.{and_assoc, and_comm}
use Rattle.std.specs.List.{All, AllPairs, list_all}
use Rattle.rv_isa.specs.Table.{Row, fits, completed, decoded, table}
use Rattle.rv_isa.proofs.laws.one_row_for_a_word.Goals as goal

-- two rows whose matches differ at a bit that both masks have
abbrev are_apart : Row → Row → Bool
are_apart r s = not (nat_eq (bit_and r.«match» s.mask) (bit_and s.«match» r.mask))

abbrev all_apart : List Row → Bool
all_apart [] = true
all_apart (r ∷ rest) = list_all (are_apart r) rest && all_apart rest

all_apart-table : all_apart table ≡ true
unfolding table
all_apart-table = refl

-- the bits of a word under one mask and then another
and-swap : (w a b : ℕ) → bit_and (bit_and w a) b ≡ bit_and (bit_and w b) a
and-swap w a b = and_assoc b w a ∙ ap (bit_and w) (and_comm a b) ∙ sym (and_assoc a w b)

apart : (w : ℕ) (r s : Row) → are_apart r s ≡ true → fits w r ≡ true → fits w s ≡ true → ⊥
apart w r s h f g =
    let under_r : bit_and w r.mask ≡ r.«match» = eqb-true _ _ f in
    let under_s : bit_and w s.mask ≡ s.«match» = eqb-true _ _ g in
    let same : bit_and r.«match» s.mask ≡ bit_and s.«match» r.mask =
    ap (λ n. bit_and n s.mask) (sym under_r) ∙ and-swap w r.mask s.mask ∙ ap (λ n. bit_and n r.mask) under_s in
    both_ways (nat_eq (bit_and r.«match» s.mask) (bit_and s.«match» r.mask)) (not-true _ h) (eq-eqb _ _ same)

-- no word that fits a row fits one of the rows apart from it
no_other : (w : ℕ) (r : Row) (rows : List Row) → list_all (are_apart r) rows ≡ true → fits w r ≡ true → All (λ s. fits w s ≡ true → ⊥) rows
no_other w r rows h f k d below g = apart w r (get_or rows k d) (AllPass-from_list_all (are_apart r) rows h k d below) f g

no_two : (w : ℕ) (rows : List Row) → all_apart rows ≡ true → AllPairs (λ r s. fits w r ≡ true → fits w s ≡ true → ⊥) rows
no_two w [] h i j d order below f g = absurd (omega arith)
no_two w (r ∷ rest) h i zero d order below f g = absurd (omega arith)
no_two w (r ∷ rest) h zero (suc j) d order below f g = no_other w r rest (and_parts _ _ h).0 f j d (omega arith) g
no_two w (r ∷ rest) h (suc i) (suc j) d order below f g = no_two w rest (and_parts _ _ h).1 i j d (omega arith) (omega arith) f g

decided : (w : ℕ) (rows : List Row) → all_apart rows ≡ true → All (λ r. fits w r ≡ true → completed w rows ≡ Some (r.instruction w)) rows
decided w [] h k d below f = absurd (omega arith)
decided w (r ∷ rest) h zero d below f = cond-true (fits w r) (Some (r.instruction w)) (completed w rest) f
decided w (r ∷ rest) h (suc k) d below f =
    let other : fits w r ≡ false = false_from_ne_true _ (λ first. no_other w r rest (and_parts _ _ h).0 first k d (omega arith) f) in
    cond-false (fits w r) (Some (r.instruction w)) (completed w rest) other ∙ decided w rest (and_parts _ _ h).1 k d (omega arith) f

none : (w : ℕ) (rows : List Row) → All (λ r. fits w r ≡ false) rows → completed w rows ≡ None
none w [] h = refl
none w (r ∷ rest) h =
    let other : fits w r ≡ false = h 0 r (omega arith) in
    cond-false (fits w r) (Some (r.instruction w)) (completed w rest) other ∙ none w rest (λ k d below. h (suc k) d (omega arith))

all_fit-table : list_all (λ r. fits r.«match» r) table ≡ true
unfolding table
all_fit-table = refl

pub returns-clause-count : goal.returns-clause-count
unfolding table
returns-clause-count c = refl

pub returns-clause-within : goal.returns-clause-within
returns-clause-within c = AllPass-from_list_all (λ r. fits r.«match» r) table all_fit-table

pub returns-clause-apart : goal.returns-clause-apart
returns-clause-apart c = λ w. no_two w table all_apart-table

pub returns-clause-decides : goal.returns-clause-decides
unfolding decoded
returns-clause-decides c = λ w. decided w table all_apart-table

pub returns-clause-others : goal.returns-clause-others
unfolding decoded
returns-clause-others c = λ w. none w table
