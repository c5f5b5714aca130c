-- The slow program's lists, the oldest or outermost first, against the definitions, the newest or innermost first.
use Rattle.std.proofs.Common.{◌≡◌, ℕ, suc, ◌+◌, ◌-◌, ◌<◌, ◌≤◌, Bool, true, false, cond, eqb, List, [], ◌∷◌, ◌++◌, length, take, drop, map, get_or, reverse, Option, Some, None, add-one, sym, ap, subst, ◌∙◌, arith}
use Rattle.std.specs.List.{All}
use Rattle.std.proofs.lemmas.Bool.{eq-eqb}
use Rattle.std.proofs.lemmas.List.{length-take, reverse-append, take-append-drop, append_assoc, take_at, drop_at, length-reverse, length-drop, take_more, map-append, get_or-reverse}
use Rattle.std.proofs.lemmas.List.Elements.{All-nil, All-cons, All-append, All-drop, All-weaker, All-get_or}
use Rattle.trace_model.specs.declared.event_kinds.Event.{Event}
use Rattle.trace_model.specs.declared.event_kinds.Event.TheVariants.{Call, Ret, Start}
use Rattle.trace_model.specs.declared.activations.Activation.{Activation}
use Rattle.trace_model.specs.declared.slow_profile.Done.{Done}
use Rattle.trace_model.specs.Activations.{begun, count_ending, count_returned, backs, calls_after, open_calls}
use Rattle.trace_model.specs.Sizes.{since, before}
use Rattle.trace_model.specs.WellFormed.{IsLight, weight}
use Rattle.trace_model.proofs.Bounds.{weight-drop}

-- with one element more, that comes first in the reverse
pub reverse-take_more : {A : Type 0} (xs : List A) (k : ℕ) (x : A) → k < length xs → x ≡ get_or xs k x → reverse (take (k + 1) xs) ≡ x ∷ reverse (take k xs)
reverse-take_more xs k x inside is =
    ap reverse (take_more xs k x inside) ∙ (reverse-append (take k xs) (get_or xs k x ∷ []) ∙ ap (λ y. y ∷ reverse (take k xs)) (sym is))

pub length-reverse_take : {A : Type 0} (xs : List A) (k : ℕ) → k < length xs → length (reverse (take k xs)) ≡ k
length-reverse_take xs k inside = omega (arith, inside, length-reverse (take k xs), length-take k xs)

split : {A : Type 0} (n : ℕ) (xs : List A) → reverse xs ≡ reverse (drop n xs) ++ reverse (take n xs)
split n xs = ap reverse (sym (take-append-drop n xs)) ∙ reverse-append (take n xs) (drop n xs)

pub reverse-take : {A : Type 0} (n : ℕ) (xs : List A) → n ≤ length xs → reverse (take (length xs - n) xs) ≡ drop n (reverse xs)
reverse-take n xs h =
    let m = length xs - n in
    let long : length (reverse (drop m xs)) ≡ n = omega (arith, length-reverse (drop m xs), length-drop m xs) in
    sym (ap (drop n) (split m xs) ∙ drop_at (reverse (drop m xs)) (reverse (take m xs)) n long)

pub take-reverse : {A : Type 0} (n : ℕ) (xs : List A) → take (length xs - n) (reverse xs) ≡ reverse (drop n xs)
take-reverse n xs =
    let long : length (reverse (drop n xs)) ≡ length xs - n = omega (arith, length-reverse (drop n xs), length-drop n xs) in
    ap (take (length xs - n)) (split n xs) ∙ take_at (reverse (drop n xs)) (reverse (take n xs)) (length xs - n) long

pub ret_ends : (e : Event) (t by target : ℕ) (bs : List (Option ℕ)) → e ≡ Ret by target → by ≡ t → count_ending e t bs ≡ count_returned target bs
ret_ends e t by target bs is own =
    ap (λ e. count_ending e t bs) is ∙ ap (λ b. cond b (count_returned target bs) 0) (eq-eqb by t own)

pub follows : (e : Event) (t at n : ℕ) (calls : List Activation) (b : List Activation) → b ≡ begun e t at →
    n ≡ count_ending e t (backs (reverse calls)) → n ≤ length calls →
    b ++ reverse (take (length calls - n) calls) ≡ calls_after e t at (reverse calls)
follows e t at n calls b new count within =
    ap (λ cs. cs ++ reverse (take (length calls - n) calls)) new
    ∙ ap (λ cs. begun e t at ++ cs) (reverse-take n calls within ∙ ap (λ m. drop m (reverse calls)) count)

-- what lies inside is the later part of the trace
pub since-reverse : (past : List Event) (at : ℕ) → since (reverse past) at ≡ reverse (drop (at + 1) past)
since-reverse past at = ap (λ n. take (n - (at + 1)) (reverse past)) (length-reverse past) ∙ take-reverse (at + 1) past

-- what lies before the inside is the earlier part
pub before-reverse : (past : List Event) (q : ℕ) → q ≤ length past → before (reverse past) q ≡ reverse (take q past)
before-reverse past q within =
    ap (λ n. drop (n - q) (reverse past)) (length-reverse past)
    ∙ sym (reverse-take (length past - q) past (omega arith))
    ∙ ap (λ n. reverse (take n past)) (rest (length past) q within)
  where
    rest : (n q : ℕ) → q ≤ n → n - (n - q) ≡ q
    rest n q h = omega arith

pub part_light : (past : List Event) (n : ℕ) (rest : List Event) → rest ≡ drop n past → IsLight (reverse past) → IsLight (reverse rest)
part_light past n rest is light = omega (arith, light, weight-drop past n, ap (λ (part : List Event). weight (reverse part)) is)

abbrev IsBefore : ℕ → Activation → Type 0
IsBefore n a = a.at < n

one_before : (b : Bool) (n : ℕ) (a : Activation) → a.at < n → All (IsBefore n) (cond b (a ∷ []) [])
one_before true n a h = All-cons (IsBefore n) a [] h (All-nil (IsBefore n))
one_before false n a h = All-nil (IsBefore n)

begun_here : (e : Event) (t at : ℕ) → All (IsBefore (at + 1)) (begun e t at)
begun_here (Call a entry back) t at = one_before (eqb a t) (at + 1) (record { at = at; entry = entry; back = Some back }) (omega arith)
begun_here (Start a entry) t at = one_before (eqb a t) (at + 1) (record { at = at; entry = entry; back = None }) (omega arith)
begun_here _ t at = All-nil (IsBefore (at + 1))

-- each open activation began at an event of the past
pub open_calls_begun : (past : List Event) (t : ℕ) → All (IsBefore (length past)) (open_calls past t)
open_calls_begun [] t = All-nil (IsBefore 0)
open_calls_begun (e ∷ past) t =
    let calls = open_calls past t in
    let n = length past in
    let here : All (IsBefore (suc n)) (begun e t n) = subst (λ m. All (IsBefore m) (begun e t n)) (add-one n) (begun_here e t n) in
    All-append (IsBefore (suc n)) (begun e t n) (drop (count_ending e t (backs calls)) calls) here
    (All-drop (IsBefore (suc n)) (count_ending e t (backs calls)) calls
    (All-weaker (IsBefore n) (IsBefore (suc n)) (λ a h. omega arith) calls (open_calls_begun past t)))

pub begun_at : (past : List Event) (t : ℕ) (calls : List Activation) (k : ℕ) (d : Activation) →
    reverse calls ≡ open_calls (reverse past) t → k < length calls →
    (get_or calls (length calls - 1 - k) d).at < length past
begun_at past t calls k d given within =
    let all = subst (λ (cs : List Activation). All (λ a. a.at < length (reverse past)) cs) (sym given) (open_calls_begun (reverse past) t) in
    let here : (get_or (reverse calls) k d).at < length (reverse past) =
    All-get_or (λ a. a.at < length (reverse past)) (reverse calls) k d (omega (arith, length-reverse calls)) all in
    omega (arith, here, ap (λ (a : Activation). a.at) (get_or-reverse calls k d within), length-reverse past)

pub ended_more : (f : Activation → Done) (before items : List Done) (calls : List Activation) (k : ℕ) (d : Activation) → k < length calls →
    items ≡ before ++ map f (take k (reverse calls)) →
    items ++ f (get_or calls (length calls - 1 - k) d) ∷ [] ≡ before ++ map f (take (k + 1) (reverse calls))
ended_more f before items calls k d within e =
    ap (λ ds. ds ++ f (get_or calls (length calls - 1 - k) d) ∷ []) e
    ∙ append_assoc before (map f (take k (reverse calls))) (f (get_or calls (length calls - 1 - k) d) ∷ [])
    ∙ ap (λ ds. before ++ ds)
    (ap (λ a. map f (take k (reverse calls)) ++ f a ∷ []) (sym (get_or-reverse calls k d within))
    ∙ sym (map-append f (take k (reverse calls)) (get_or (reverse calls) k d ∷ []))
    ∙ ap (map f) (sym (take_more (reverse calls) k d (omega (arith, length-reverse calls)))))
