-- Sizes and costs are bounded by the weight of the events, and the weight of a part by that of the whole.
use Rattle.std.proofs.Common.{◌≡◌, ℕ, zero, suc, ◌+◌, ◌≤◌, Bool, true, false, cond, eqb, List, [], ◌∷◌, ◌++◌, length, take, drop, reverse, sym, ap, ◌∙◌, arith}
use Rattle.std.specs.List.{count_by, range_with_len}
use Rattle.std.proofs.lemmas.List.{reverse-append, take-append-drop}
use Rattle.std.proofs.lemmas.List.Sums.{count_by-le-length, sum_by_push}
use Rattle.std.proofs.lemmas.List.FromFn.{length-range_with_len}
use Rattle.trace_model.specs.declared.event_kinds.Event.{Event}
use Rattle.trace_model.specs.declared.event_kinds.Event.TheVariants.{Step, Read}
use Rattle.trace_model.specs.Events.{words_read, steps_run}
use Rattle.trace_model.specs.Sizes.{count_pairs, cost}
use Rattle.trace_model.specs.WellFormed.{IsLight, IsWellFormed, weight, weight_of}

pub weight-append : (xs ys : List Event) → weight (xs ++ ys) ≡ weight xs + weight ys
weight-append [] ys = omega arith
weight-append (e ∷ xs) ys = omega (arith, weight-append xs ys)

parts : (h : List Event) (i : ℕ) → weight (reverse h) ≡ weight (reverse (drop i h)) + weight (reverse (take i h))
parts h i =
    ap (λ l. weight (reverse l)) (sym (take-append-drop i h))
    ∙ ap weight (reverse-append (take i h) (drop i h))
    ∙ weight-append (reverse (drop i h)) (reverse (take i h))

pub weight-take : (h : List Event) (i : ℕ) → weight (reverse (take i h)) ≤ weight (reverse h)
weight-take h i = omega (arith, parts h i)

pub weight-drop : (h : List Event) (i : ℕ) → weight (reverse (drop i h)) ≤ weight (reverse h)
weight-drop h i = omega (arith, parts h i)

if_any : (b : Bool) (n : ℕ) (xs : List ℕ) → length xs ≡ n → length (cond b xs []) ≤ n
if_any true n xs e = omega arith
if_any false n xs e = omega arith

length-words_read : (e : Event) (t : ℕ) → length (words_read e t) + 1 ≤ weight_of e
length-words_read (Read a first count) t = omega (arith, if_any (eqb a t) count (range_with_len first count) (length-range_with_len first count))
length-words_read _ t = omega arith

pub pairs-le-weight : (test : List Event → ℕ → Bool) (inside : List Event) (t : ℕ) → count_pairs test inside t ≤ weight inside
pairs-le-weight test [] t = omega arith
pairs-le-weight test (e ∷ inside) t =
    omega (arith, pairs-le-weight test inside t, count_by-le-length (test inside) (words_read e t), length-words_read e t)

one_or_none : (b : Bool) → cond b 1 0 ≤ 1
one_or_none true = omega arith
one_or_none false = omega arith

steps_run-le : (e : Event) (t : ℕ) → steps_run e t ≤ weight_of e
steps_run-le (Step a) t = one_or_none (eqb a t)
steps_run-le _ t = omega arith

pub cost-le-weight : (inside : List Event) (t : ℕ) → cost inside t ≤ weight inside
cost-le-weight [] t = omega arith
cost-le-weight (e ∷ inside) t = omega (arith, cost-le-weight inside t, steps_run-le e t)

pub range_with_len_more : (a n : ℕ) → range_with_len a (n + 1) ≡ range_with_len a n ++ (a + n) ∷ []
range_with_len_more a n = ap (range_with_len a) (add-one n) ∙ by a n
  where
    add-one : (n : ℕ) → n + 1 ≡ suc n
    add-one n = omega arith

    by : (a n : ℕ) → range_with_len a (suc n) ≡ range_with_len a n ++ (a + n) ∷ []
    by a zero = ap (λ k. k ∷ []) (omega arith)
    by a (suc n) = ap (λ xs. a ∷ xs) (by (a + 1) n ∙ ap (λ k. range_with_len (a + 1) n ++ k ∷ []) (omega arith))

pub count_range_more : (p : ℕ → Bool) (a n : ℕ) → count_by p (range_with_len a (n + 1)) ≡ count_by p (range_with_len a n) + cond (p (a + n)) 1 0
count_range_more p a n = ap (count_by p) (range_with_len_more a n) ∙ sum_by_push (λ x. cond (p x) 1 0) (range_with_len a n) (a + n)

pub count_range-le : (p : ℕ → Bool) (a n : ℕ) → count_by p (range_with_len a n) ≤ n
count_range-le p a n = omega (arith, count_by-le-length p (range_with_len a n), length-range_with_len a n)

-- the events of a run weigh little
pub light_formed : (past : List Event) → IsWellFormed past → IsLight past
light_formed [] formed = omega arith
light_formed (e ∷ past) formed = formed.1
