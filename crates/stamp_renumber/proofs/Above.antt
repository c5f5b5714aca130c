-- The counter stays above all stamps.
use Rattle.std.proofs.Common.{◌≡◌, ℕ, ◌+◌, ◌*◌, ◌<◌, Bool, true, false, cond, List, [], ◌∷◌, length, get_or, Some, refl, sym, ap, ◌∙◌, subst, arith, All, inl, inr}
use Rattle.std.specs.Prelude.{◌==◌}
use Rattle.std.proofs.lemmas.Bool.{cases_lt, lt-ltb, le-ltb}
use Rattle.std.proofs.lemmas.List.Elements.{All-map}
use Rattle.guest_words.specs.ByThread.{numbers, value_of}
use Rattle.shadow_stack.specs.Frames.{Frame}
use Rattle.shadow_pages.specs.Pages.{Page, stamp_at}
use Rattle.stamp_renumber.specs.Classes.{new_start}
use Rattle.stamp_renumber.specs.Threads.{Live, Stamped, all_starts}
use Rattle.stamp_renumber.specs.Ticks.{AreBelow, IsRenumbered, TicksStayAbove}
use Rattle.stamp_renumber.specs.declared.ticks.Ticked.{Ticked}
use Rattle.stamp_renumber.proofs.Order.{new_stamps_fit}

-- a thread of the one list is one of the other
was_there : (old new : List (ℕ × Stamped)) → numbers new ≡ numbers old → (t : ℕ) (is : Stamped) → value_of new t ≡ Some is → (was : Stamped) × (value_of old t ≡ Some was)
was_there [] [] same t is here = absurd (cc)
was_there (x ∷ old) [] same t is here = absurd (cc)
was_there [] (y ∷ new) same t is here = absurd (cc)
was_there (x ∷ old) (y ∷ new) same t is here =
    let first : y.0 ≡ x.0 = cc in
    let rest : numbers new ≡ numbers old = cc in
    by (x.0 == t) (ap (λ n. cond (n == t) (Some y.1) (value_of new t)) (sym first) ∙ here) (λ later. was_there old new rest t is later)
  where
    by : (b : Bool) → cond b (Some y.1) (value_of new t) ≡ Some is → (value_of new t ≡ Some is → (was : Stamped) × (value_of old t ≡ Some was)) → (was : Stamped) × (cond b (Some x.1) (value_of old t) ≡ Some was)
    by true here later = (x.1, refl)
    by false here later = later here

renumbered_below : (old new : Live) (writes written : List Page) → IsRenumbered old new writes written → AreBelow new written (3 * length (all_starts old.threads) + 3)
renumbered_below old new writes written all =
    let starts = all_starts old.threads in
    record {
      starts = λ t s here.
          let was = was_there old.threads new.threads all.same t s here in
          subst (λ (fs : List Frame). All (λ (f : Frame). f.start < 3 * length starts + 3) fs) (sym (all.each t was.0 s was.1 here).frames)
          (All-map (λ (f : Frame). f.start < 3 * length starts + 3) (λ (f : Frame). record f { start = new_start starts f.start }) was.0.frames (λ k d lt. (new_stamps_fit starts (get_or was.0.frames k d).start 0).0));
      accesses = λ t s here w.
          let was = was_there old.threads new.threads all.same t s here in
          subst (λ n. n < 3 * length starts + 3) (sym ((all.each t was.0 s was.1 here).stamps w)) (new_stamps_fit starts (stamp_at was.0.pages w) (stamp_at writes w)).2;
      written = λ w. subst (λ n. n < 3 * length starts + 3) (sym (all.stamps w)) (new_stamps_fit starts 0 (stamp_at writes w)).1;
    }

pub ticks_stay_above : TicksStayAbove
ticks_stay_above greatest counter old new writes written within below low high = elim (cases_lt counter greatest) [
  | inl under ↦
      let same = low under in
      let is = ap (λ (b : Bool). (cond {A = Ticked} b (record { counter = counter + 1; renewed = false }) (record { counter = 3 * length (all_starts old.threads) + 3; renewed = true })).counter) (lt-ltb counter greatest under) in
      subst (AreBelow new written) (sym is) (subst (λ (l : Live). AreBelow l written (counter + 1)) (sym same.0) (subst (λ (ps : List Page). AreBelow old ps (counter + 1)) (sym same.1) below))
  | inr over ↦
      let is = ap (λ (b : Bool). (cond {A = Ticked} b (record { counter = counter + 1; renewed = false }) (record { counter = 3 * length (all_starts old.threads) + 3; renewed = true })).counter) (le-ltb counter greatest over) in
      subst (AreBelow new written) (sym is) (renumbered_below old new writes written (high (omega (arith, within, over))))
]
