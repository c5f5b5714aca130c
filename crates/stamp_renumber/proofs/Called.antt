-- A thread begins a call, or ends one, also after it counted steps.
use Rattle.std.proofs.Common.{◌≡◌, ℕ, ◌+◌, ◌≤◌, Bool, true, false, cond, List, [], ◌∷◌, ◌++◌, Option, Some, refl, sym, ap, ◌∙◌, subst, arith}
use Rattle.std.specs.Prelude.{◌==◌}
use Rattle.guest_words.specs.ByThread.{value_of, with_value}
use Rattle.call_tracker.specs.ThreadCalls.{Calls}
use Rattle.shadow_stack.specs.Frames.{Frame, IsPopped, new_frame}
use Rattle.stamp_renumber.specs.declared.thread_stamps.EndedCall.{EndedCall}
use Rattle.stamp_renumber.specs.Begun.{IsBegun}
use Rattle.stamp_renumber.specs.Counted.{with_calls}
use Rattle.stamp_renumber.specs.Returned.{EndsOne}
use Rattle.stamp_renumber.specs.Threads.{Live, Stamped, calls_of, frames_of, pages_of, spare_of, stamped}
use Rattle.stamp_renumber.proofs.Changed.{calls_are, calls_were, changed_calls, changed_to, frames_are, frames_were, spare_is, spare_was}

-- the clauses of `begin`, as one fact
pub begun : (t start entry : ℕ) (back : Option ℕ) (old new : Live) →
    new.threads ≡ with_value old.threads t (stamped new.threads t (frames_of old.threads t ++ new_frame start ∷ []) (pages_of old.threads t)) →
    (calls_of new.threads t).list ≡ record { entry = entry; back = back; earlier = (calls_of old.threads t).counts } ∷ (calls_of old.threads t).list →
    (calls_of new.threads t).counts ≡ (calls_of old.threads t).counts → spare_of old.threads t ≤ spare_of new.threads t + 1 → old.marks ≡ new.marks + 1 →
    IsBegun t start entry back old new
begun t start entry back old new threads list counts lowered marks = record { threads = threads; list = list; counts = counts; lowered = lowered; marks = marks }

-- of two writes the later one stays
pub with_twice : (xs : List (ℕ × Stamped)) (t : ℕ) (a b : Stamped) → with_value (with_value xs t a) t b ≡ with_value xs t b
with_twice [] t a b = refl
with_twice (x ∷ xs) t a b = by (x.0 == t) refl (with_twice xs t a b)
  where
    by : (d : Bool) → (x.0 == t) ≡ d → with_value (with_value xs t a) t b ≡ with_value xs t b →
        with_value (cond d ((x.0, a) ∷ xs) (x ∷ with_value xs t a)) t b ≡ cond d ((x.0, b) ∷ xs) (x ∷ with_value xs t b)
    by true is later = ap (λ (c : Bool). cond c ((x.0, b) ∷ xs) ((x.0, a) ∷ with_value xs t b)) is
    by false is later = ap (λ (c : Bool). cond c ((x.0, b) ∷ with_value xs t a) (x ∷ with_value (with_value xs t a) t b)) is ∙ ap (λ (ys : List (ℕ × Stamped)). x ∷ ys) later

-- what holds after a change of its calls and another one
pub after_calls : (P : Live → Live → Type 0) (xs : List (ℕ × Stamped)) (marks left : ℕ) (live : Live) (t : ℕ) (old mid new : Stamped) (change : Calls → Calls) →
    record { threads = xs; marks = marks } ≡ live → value_of xs t ≡ Some old → mid ≡ record old { calls = change old.calls } →
    P (record { threads = with_value xs t mid; marks = marks }) (record { threads = with_value (with_value xs t mid) t new; marks = left }) →
    P (with_calls live t (change (calls_of live.threads t))) (record { threads = with_value xs t new; marks = left })
after_calls P xs marks left live t old mid new change is here made holds =
    subst (λ (l : Live). P l (record { threads = with_value xs t new; marks = left })) (changed_calls xs marks live t old mid change is here made)
    (subst (λ (ys : List (ℕ × Stamped)). P (record { threads = with_value xs t mid; marks = marks }) (record { threads = ys; marks = left })) (with_twice xs t mid new) holds)

module _ (xs : List (ℕ × Stamped)) (t marks left : ℕ) (old new : Stamped) (here : value_of xs t ≡ Some old) where
  -- it begins a call
  pub begun_one : (start entry : ℕ) (back : Option ℕ) → new.frames ≡ old.frames ++ new_frame start ∷ [] → new.pages ≡ old.pages →
      new.calls.list ≡ record { entry = entry; back = back; earlier = old.calls.counts } ∷ old.calls.list → new.calls.counts ≡ old.calls.counts →
      old.spare ≤ new.spare + 1 → marks ≡ left + 1 →
      IsBegun t start entry back (record { threads = xs; marks = marks }) (record { threads = with_value xs t new; marks = left })
  begun_one start entry back frames pages list counts lowered taken =
      let were = calls_were xs xs refl t old here in
      let are = calls_are xs xs refl t old here new in
      record {
        threads = changed_to xs xs refl t old here new (frames_of xs t ++ new_frame start ∷ []) (frames ∙ ap (λ (fs : List Frame). fs ++ new_frame start ∷ []) (sym (frames_were xs xs refl t old here))) pages;
        list = ap (λ (k : Calls). k.list) are ∙ list ∙ (λ i. record { entry = entry; back = back; earlier = (sym were i).counts } ∷ (sym were i).list);
        counts = ap (λ (k : Calls). k.counts) are ∙ counts ∙ ap (λ (k : Calls). k.counts) (sym were);
        lowered = omega (arith, spare_was xs xs refl t old here, spare_is xs xs refl t old here new, lowered);
        marks = taken;
      }

  -- it ends one
  pub ended_one : (ended : EndedCall) → IsPopped old.frames (Some ended.sums) new.frames → new.pages ≡ old.pages → old.calls.list ≡ ended.call ∷ new.calls.list →
      new.calls.counts ≡ old.calls.counts → ended.counts ≡ old.calls.counts → old.spare ≤ new.spare → left ≡ marks + 1 →
      EndsOne t (record { threads = xs; marks = marks }) (record { threads = with_value xs t new; marks = left }) ended
  ended_one ended popped pages list counts counted kept given =
      let were = calls_were xs xs refl t old here in
      let are = calls_are xs xs refl t old here new in
      let frames = frames_are xs xs refl t old here new in
      record {
        popped =
            subst (λ (fs : List Frame). IsPopped (frames_of xs t) (Some ended.sums) fs) (sym frames)
            (subst (λ (fs : List Frame). IsPopped fs (Some ended.sums) new.frames) (sym (frames_were xs xs refl t old here)) popped);
        threads = changed_to xs xs refl t old here new _ (sym frames) pages;
        list = ap (λ (k : Calls). k.list) were ∙ list ∙ ap (λ (k : Calls). ended.call ∷ k.list) (sym are);
        counts = ap (λ (k : Calls). k.counts) are ∙ counts ∙ ap (λ (k : Calls). k.counts) (sym were);
        counted = counted ∙ ap (λ (k : Calls). k.counts) (sym were);
        kept = omega (arith, spare_was xs xs refl t old here, spare_is xs xs refl t old here new, kept);
        marks = given;
      }
