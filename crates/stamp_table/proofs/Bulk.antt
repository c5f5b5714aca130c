-- A read of many words at once.
use Rattle.std.proofs.Common.{◌≡◌, ℕ, ◌+◌, Bool, true, false, not, cond, eqb, leb, ltb, ◌&&◌, List, [], ◌∷◌, refl, sym, ap, ◌∙◌, arith, pos}
use Rattle.std.specs.List.{count_by}
use Rattle.std.proofs.lemmas.Int.{ints}
use Rattle.std.proofs.lemmas.Bool.{eqb-true, lt-leb}
use Rattle.std.proofs.lemmas.Bool.Decides.{nat_tests}
use Rattle.std.proofs.lemmas.List.Sums.{sum_by-cons}
use Rattle.stamp_lanes.specs.Plain.{Place, is_old, is_plain, is_untouched}
use Rattle.shadow_stack.specs.declared.sums.Sums.{Sums}
use Rattle.shadow_stack.specs.Frames.{Frame, plus, starts_of}
use Rattle.stamp_table.specs.Frames.{added_to_top, negated, no_sums, taken_at, gain, frames_after_read, frames_after_reads}
use Rattle.stamp_table.specs.Stands.{IsFalling}
use Rattle.stamp_table.specs.Bulk.{ReadsAtOnce}
use Rattle.stamp_table.proofs.Frames.{same_sums, none-plus}

-- no frame starts at 0
taken-none : (by : Sums) (own limit : ℕ) (frames : List Frame) → own ≡ 0 → IsFalling limit (starts_of frames) → taken_at by own frames ≡ frames
taken-none by own limit [] none falling = refl
taken-none by own limit (f ∷ frames) none falling =
    ap (λ c. cond c (record f { sums = plus f.sums (negated by) } ∷ frames) (f ∷ taken_at by own frames)) (lt-leb f.start own (omega (arith, none, falling.0)))
    ∙ ap (λ fs. f ∷ fs) (taken-none by own f.start frames none falling.2)

abbrev one_if : Bool → ℕ
one_if b = cond b 1 0

-- what a read of one place adds to the innermost frame, where the place is not old
abbrev added_by : Place → Sums
added_by p = record { plain = pos (one_if (is_plain p)); bare = pos (one_if (is_untouched p)) }

back_again : (s by : Sums) → plus (plus s (negated by)) by ≡ plus s no_sums
back_again s by = same_sums _ _ (omega (arith, ints)) (omega (arith, ints))

gain_is : (own write : ℕ) → eqb own 0 ≡ true → cond (ltb own write) (pos 0) (pos 1) ≡ pos (one_if (eqb own 0 && eqb write 0))
gain_is own write h =
    ap (λ b. cond b (pos 0) (pos 1)) (written own write h) ∙ by (eqb write 0) ∙ sym (ap (λ b. pos (one_if (b && eqb write 0))) h)
  where
    written : (own write : ℕ) → eqb own 0 ≡ true → ltb own write ≡ not (eqb write 0)
    written own write h = grind (arith, nat_tests)

    by : (b : Bool) → cond (not b) (pos 0) (pos 1) ≡ pos (one_if (true && b))
    by true = refl
    by false = refl

read_one : (p : Place) (limit : ℕ) (f : Frame) (frames : List Frame) → IsFalling limit (starts_of (f ∷ frames)) → is_old f.start p ≡ false →
    frames_after_read p (f ∷ frames) ≡ added_to_top (added_by p) (f ∷ frames)
read_one p limit f frames falling young = by (eqb p.own 0) refl
  where
    by : (b : Bool) → eqb p.own 0 ≡ b → frames_after_read p (f ∷ frames) ≡ added_to_top (added_by p) (f ∷ frames)
    by true h =
        let none : p.own ≡ 0 = eqb-true p.own 0 h in
        let high : leb f.start p.own ≡ false = lt-leb f.start p.own (omega (arith, none, falling.0)) in
        let sums : plus f.sums (gain p) ≡ plus f.sums (added_by p) =
        ap (plus f.sums) (same_sums (gain p) (added_by p) (gain_is p.own p.write h) (sym (ap (λ b. pos (one_if b)) h))) in
        let rest = taken-none (gain p) p.own f.start frames none falling.2 in
        ap (λ c. added_to_top (gain p) (cond c (record f { sums = plus f.sums (negated (gain p)) } ∷ frames) (f ∷ taken_at (gain p) p.own frames))) high
        ∙ (λ i. record f { sums = sums i } ∷ rest i)
    by false h =
        let within : leb f.start p.own ≡ true = inside f.start p.own h young in
        let sums : plus (plus f.sums (negated (gain p))) (gain p) ≡ plus f.sums (added_by p) =
        back_again f.sums (gain p) ∙ sym (ap (λ b. plus f.sums (record { plain = pos (one_if (b && eqb p.write 0)); bare = pos (one_if b) })) h) in
        ap (λ c. added_to_top (gain p) (cond c (record f { sums = plus f.sums (negated (gain p)) } ∷ frames) (f ∷ taken_at (gain p) p.own frames))) within
        ∙ (λ i. record f { sums = sums i } ∷ frames)
      where
        inside : (start own : ℕ) → eqb own 0 ≡ false → (ltb 0 own && ltb own start) ≡ false → leb start own ≡ true
        inside start own h young = grind (arith, nat_tests)

none_of_two : (b : Bool) (n : ℕ) → one_if b + n ≡ 0 → b ≡ false
none_of_two true n h = absurd (omega (arith, h))
none_of_two false n h = refl

at_once : (places : List Place) (limit : ℕ) (f : Frame) (frames : List Frame) → IsFalling limit (starts_of (f ∷ frames)) → count_by (is_old f.start) places ≡ 0 →
    frames_after_reads places (f ∷ frames) ≡ added_to_top (record { plain = pos (count_by is_plain places); bare = pos (count_by is_untouched places) }) (f ∷ frames)
at_once [] limit f frames falling none = λ i. record f { sums = sym (none-plus f.sums) i } ∷ frames
at_once (p ∷ places) limit f frames falling none =
    let split = sum_by-cons (λ p. one_if (is_old f.start p)) p places in
    let young = none_of_two (is_old f.start p) (count_by (is_old f.start) places) (sym split ∙ none) in
    let f' : Frame = record f { sums = plus f.sums (added_by p) } in
    let sums : plus f'.sums (record { plain = pos (count_by is_plain places); bare = pos (count_by is_untouched places) })
    ≡ plus f.sums (record { plain = pos (count_by is_plain (p ∷ places)); bare = pos (count_by is_untouched (p ∷ places)) }) =
    same_sums _ _ (omega (arith, ints, sum_by-cons (λ p. one_if (is_plain p)) p places)) (omega (arith, ints, sum_by-cons (λ p. one_if (is_untouched p)) p places)) in
    ap (frames_after_reads places) (read_one p limit f frames falling young)
    ∙ at_once places limit f' frames falling (omega (arith, none, split))
    ∙ (λ i. record f { sums = sums i } ∷ frames)

pub reads_at_once : ReadsAtOnce
reads_at_once places bulk limit f frames falling counts none =
    at_once places limit f frames falling (sym counts.old ∙ none)
    ∙ (λ i. added_to_top (record { plain = pos (sym counts.plain i); bare = pos (sym counts.untouched i) }) (f ∷ frames))
