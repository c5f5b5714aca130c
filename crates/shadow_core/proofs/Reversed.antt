-- Frames as the code has them, the outermost first, and as the table has them, the innermost first.
use Rattle.std.proofs.Common.{◌≡◌, ℕ, zero, suc, ◌<◌, cond, List, [], ◌∷◌, ◌++◌, length, reverse, Option, Some, None, refl, sym, ap, ◌∙◌, arith, add-one}
use Rattle.std.specs.Prelude.{slice_index}
use Rattle.std.proofs.lemmas.Bool.{le-leb, lt-leb}
use Rattle.std.proofs.lemmas.List.{append_assoc, append-nil, reverse-append, length-reverse}
use Rattle.std.proofs.lemmas.List.Sums.{sum_by-append}
use Rattle.shadow_stack.specs.declared.sums.Sums.{Sums}
use Rattle.shadow_stack.specs.Frames.{Frame, IsLastAtMost, added, added_to_last, plus, starts_of}
use Rattle.shadow_stack.proofs.Places.{last_added, length_changed}
use Rattle.stamp_table.specs.Frames.{added_to_top, negated, taken_at, gain, frames_after_read, pop, popped, frames_after_pops}
use Rattle.shadow_core.specs.Private.Parts.{PushesInFront, taken, TakesWhereFound, AddsToTheTop, AddsAtTheLast, ReadsWhereFound, PopsTheTop, PopsInOrder, ReadsGoOn, CountsGoOn}

pub pushes_in_front : PushesInFront
pushes_in_front fs f = reverse-append fs (f ∷ [])

first_last : (f : Frame) (fs : List Frame) → reverse (f ∷ fs) ≡ reverse fs ++ f ∷ []
first_last f fs = reverse-append (f ∷ []) fs

before_rest : (f : Frame) (fs rest : List Frame) → reverse (f ∷ fs) ++ rest ≡ reverse fs ++ f ∷ rest
before_rest f fs rest = ap (λ (gs : List Frame). gs ++ rest) (first_last f fs) ∙ append_assoc (reverse fs) (f ∷ []) rest

-- ---- where something is taken
-- all start above the stamp
abbrev AreAbove : ℕ → List Frame → Type 0
AreAbove stamp [] = Unit {0}
AreAbove stamp (f ∷ fs) = (stamp < f.start) × AreAbove stamp fs

above_all : (stamp : ℕ) (fs : List Frame) → ((i : ℕ) → i < length (starts_of fs) → stamp < slice_index (starts_of fs) i) → AreAbove stamp fs
above_all stamp [] h = tt
above_all stamp (f ∷ fs) h = (h 0 (omega arith), above_all stamp fs (λ i lt. h (suc i) (omega (arith, lt))))

-- the search goes on behind them
taken-above : (by : Sums) (stamp : ℕ) (fs rest : List Frame) → AreAbove stamp fs → reverse fs ++ taken_at by stamp rest ≡ taken_at by stamp (reverse fs ++ rest)
taken-above by stamp [] rest above = refl
taken-above by stamp (f ∷ fs) rest above =
    let skip : taken_at by stamp (f ∷ rest) ≡ f ∷ taken_at by stamp rest =
    ap (λ c. cond c (record f { sums = plus f.sums (negated by) } ∷ rest) (f ∷ taken_at by stamp rest)) (lt-leb f.start stamp above.0) in
    before_rest f fs (taken_at by stamp rest)
    ∙ ap (λ (gs : List Frame). reverse fs ++ gs) (sym skip)
    ∙ taken-above by stamp fs (f ∷ rest) above.1
    ∙ ap (taken_at by stamp) (sym (before_rest f fs rest))

taken-found : (by : Sums) (stamp k : ℕ) (fs rest : List Frame) → IsLastAtMost (starts_of fs) stamp (Some k) →
    reverse (added k (negated by) fs) ++ rest ≡ taken_at by stamp (reverse fs ++ rest)
taken-found by stamp k [] rest last = absurd (omega (arith, last.0))
taken-found by stamp zero (f ∷ fs) rest last =
    let f' : Frame = record f { sums = plus f.sums (negated by) } in
    let here : taken_at by stamp (f ∷ rest) ≡ f' ∷ rest = ap (λ c. cond c (f' ∷ rest) (f ∷ taken_at by stamp rest)) (le-leb f.start stamp last.1) in
    before_rest f' fs rest
    ∙ ap (λ (gs : List Frame). reverse fs ++ gs) (sym here)
    ∙ taken-above by stamp fs (f ∷ rest) (above_all stamp fs (λ i lt. last.2 (suc i) (omega arith) (omega (arith, lt))))
    ∙ ap (taken_at by stamp) (sym (before_rest f fs rest))
taken-found by stamp (suc k) (f ∷ fs) rest last =
    before_rest f (added k (negated by) fs) rest
    ∙ taken-found by stamp k fs (f ∷ rest) (omega (arith, last.0), last.1, λ i up lt. last.2 (suc i) (omega (arith, up)) (omega (arith, lt)))
    ∙ ap (taken_at by stamp) (sym (before_rest f fs rest))

pub takes_where_found : TakesWhereFound
takes_where_found by stamp None fs last =
    sym (append-nil (reverse fs)) ∙ taken-above by stamp fs [] (above_all stamp fs last) ∙ ap (taken_at by stamp) (append-nil (reverse fs))
takes_where_found by stamp (Some k) fs last =
    sym (append-nil (reverse (added k (negated by) fs))) ∙ taken-found by stamp k fs [] last ∙ ap (taken_at by stamp) (append-nil (reverse fs))

-- ---- the innermost frame
top-append : (by : Sums) (fs rest : List Frame) → 0 < length fs → added_to_top by fs ++ rest ≡ added_to_top by (fs ++ rest)
top-append by [] rest some = absurd (omega (arith, some))
top-append by (f ∷ fs) rest some = refl

pub adds_to_the_top : AddsToTheTop
adds_to_the_top by [] = refl
adds_to_the_top by (f ∷ []) = refl
adds_to_the_top by (f ∷ g ∷ fs) =
    first_last f (added_to_last by (g ∷ fs))
    ∙ ap (λ (gs : List Frame). gs ++ f ∷ []) (adds_to_the_top by (g ∷ fs))
    ∙ top-append by (reverse (g ∷ fs)) (f ∷ []) (omega (arith, length-reverse (g ∷ fs)))
    ∙ ap (added_to_top by) (sym (first_last f (g ∷ fs)))

pub adds_at_the_last : AddsAtTheLast
adds_at_the_last by k fs long = ap (reverse {A = Frame}) (last_added k by fs (long ∙ add-one k)) ∙ adds_to_the_top by fs

length-taken : (by : Sums) (place : Option ℕ) (fs : List Frame) → length (taken by place fs) ≡ length fs
length-taken by None fs = refl
length-taken by (Some k) fs = length_changed k (negated by) fs

pub reads_where_found : ReadsWhereFound
reads_where_found p place k fs last long =
    adds_at_the_last (gain p) k (taken (gain p) place fs) (length-taken (gain p) place fs ∙ long)
    ∙ ap (added_to_top (gain p)) (takes_where_found (gain p) p.own place fs last)

-- ---- pops
pub pops_the_top : PopsTheTop
pops_the_top fs gs sums (outer, top, is, own, new) =
    let whole : reverse fs ≡ top ∷ reverse outer = ap (reverse {A = Frame}) is ∙ pushes_in_front outer top in (
      ap (popped 1) whole ∙ ap (λ (s : Sums). s ∷ []) own,
      ap pop whole ∙ ap (λ (s : Sums). added_to_top s (reverse outer)) own ∙ sym (adds_to_the_top sums outer) ∙ ap (reverse {A = Frame}) (sym new),
    )

popped-cons : (n : ℕ) (frames : List Frame) (s : Sums) (more : List Sums) → popped 1 frames ≡ s ∷ [] → popped n (pop frames) ≡ more → popped (suc n) frames ≡ s ∷ more
popped-cons n [] s more one rest = absurd (cc)
popped-cons n (f ∷ frames) s more one rest = let same : f.sums ≡ s = cc in λ i. same i ∷ rest i

pub pops_in_order : PopsInOrder
pops_in_order fs gs [] is = (refl, ap (reverse {A = Frame}) (sym is))
pops_in_order fs gs (s ∷ sums) (rest, first, more) =
    let one = pops_the_top fs rest s first in
    let later = pops_in_order rest gs sums more in (
      popped-cons (length sums) (reverse fs) s sums one.0 (ap (popped (length sums)) one.1 ∙ later.0),
      ap (frames_after_pops (length sums)) one.1 ∙ later.1,
    )

-- ---- reads
pub reads_go_on : ReadsGoOn
reads_go_on [] qs frames = refl
reads_go_on (p ∷ ps) qs frames = reads_go_on ps qs (frames_after_read p frames)

pub counts_go_on : CountsGoOn
counts_go_on test ps qs = sum_by-append (λ p. cond (test p) 1 0) ps qs
