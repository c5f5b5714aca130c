use Rattle.std.proofs.Common.{◌≡◌, ◌+◌, ◌<◌, ◌∙◌, ℕ, List, length, map, get_or, set, Some, ap, sym, subst, arith, All}
use Rattle.std.specs.Prelude.{Contains, sum_by}
use Rattle.std.specs.Option.{option_copied_mut}
use Rattle.std.proofs.lemmas.List.{get_or_default, take_all}
use Rattle.std.proofs.lemmas.List.Sums.{sum_by_more}
use Rattle.guest_words.specs.ByThread.{IsRising, numbers, value_of, with_value}
use Rattle.guest_words.proofs.ThreadTables.{numbers-with}
use Rattle.shadow_stack.specs.Frames.{starts_of}
use Rattle.stamp_renumber.specs.Costs.{stamps_of}
use Rattle.stamp_renumber.specs.Renumbered.{IsThreadRenumbered}
use Rattle.stamp_renumber.specs.Threads.{Stamped}
use Rattle.stamp_renumber.proofs.Whole.{all_of_place, done_more, left_more, lent, numbers_long, starts_of_place, value_at, with_at}
use Rattle.stamp_renumber.proofs.renumbering.renumber_threads.Goals as goal

pub unwrap-thread-requires : goal.unwrap-thread-requires
unwrap-thread-requires g c =
    let f = g.S.Stamp.number_of in
    let old = c.args.threads.now.list in
    let now = c.loop-i.threads.list in
    let i = c.loop-i.i in
    let d = c.index-list-i.result in
    let same : numbers now ≡ numbers old = c.loop-i.invariant.same in
    let rising : IsRising (numbers now) = subst IsRising (sym same) c.len-i-end.ensures.rising in
    let inside : i < length old = omega (arith, c.loop-i-test.true, c.len-i-end.ensures.value) in
    let long : length now ≡ length old = numbers_long now old same in
    let tid_is : (get_or c.list.result.now i d).0 ≡ (get_or now i d).0 = ap (λ (xs : List (ℕ × Stamped)). (get_or xs i d).0) c.list.ensures in
    let here : value_of now (get_or c.list.result.now i d).0 ≡ Some (get_or now i d).1 = ap (λ t. value_of now t) tid_is ∙ value_at now i d rising (omega (arith, inside, long)) in
    lent c.get_mut.result (get_or now i d).1 (c.get_mut.ensures.found ∙ here)

pub renumber-requires-clause-among : goal.renumber-requires-clause-among
renumber-requires-clause-among g c =
    let f = g.S.Stamp.number_of in
    let old = c.args.threads.now.list in
    let now = c.loop-i.threads.list in
    let i = c.loop-i.i in
    let d = c.index-list-i.result in
    let same : numbers now ≡ numbers old = c.loop-i.invariant.same in
    let rising : IsRising (numbers now) = subst IsRising (sym same) c.len-i-end.ensures.rising in
    let inside : i < length old = omega (arith, c.loop-i-test.true, c.len-i-end.ensures.value) in
    let long : length now ≡ length old = numbers_long now old same in
    let tid_is : (get_or c.list.result.now i d).0 ≡ (get_or now i d).0 = ap (λ (xs : List (ℕ × Stamped)). (get_or xs i d).0) c.list.ensures in
    let here : value_of now (get_or c.list.result.now i d).0 ≡ Some (get_or now i d).1 = ap (λ t. value_of now t) tid_is ∙ value_at now i d rising (omega (arith, inside, long)) in
    let found : Some c.unwrap-thread.result.now ≡ Some (get_or now i d).1 = sym (ap option_copied_mut c.unwrap-thread.ensures) ∙ c.get_mut.ensures.found ∙ here in
    let one : c.unwrap-thread.result.now ≡ (get_or now i d).1 = cc in
    let was : c.unwrap-thread.result.now ≡ (get_or old i d).1 = one ∙ ap (λ (x : ℕ × Stamped). x.1) (c.loop-i.invariant.left i d (omega arith)) in
    subst (λ (s : Stamped). All (Contains (map f c.args.starts.now)) (starts_of s.frames)) (sym was) (all_of_place (Contains (map f c.args.starts.now)) old i d inside c.requires.among)

pub renumber-requires-clause-room : goal.renumber-requires-clause-room
renumber-requires-clause-room g c =
    let f = g.S.Stamp.number_of in
    let old = c.args.threads.now.list in
    let now = c.loop-i.threads.list in
    let i = c.loop-i.i in
    let d = c.index-list-i.result in
    let same : numbers now ≡ numbers old = c.loop-i.invariant.same in
    let rising : IsRising (numbers now) = subst IsRising (sym same) c.len-i-end.ensures.rising in
    let inside : i < length old = omega (arith, c.loop-i-test.true, c.len-i-end.ensures.value) in
    let long : length now ≡ length old = numbers_long now old same in
    let tid_is : (get_or c.list.result.now i d).0 ≡ (get_or now i d).0 = ap (λ (xs : List (ℕ × Stamped)). (get_or xs i d).0) c.list.ensures in
    let here : value_of now (get_or c.list.result.now i d).0 ≡ Some (get_or now i d).1 = ap (λ t. value_of now t) tid_is ∙ value_at now i d rising (omega (arith, inside, long)) in
    let found : Some c.unwrap-thread.result.now ≡ Some (get_or now i d).1 = sym (ap option_copied_mut c.unwrap-thread.ensures) ∙ c.get_mut.ensures.found ∙ here in
    let one : c.unwrap-thread.result.now ≡ (get_or now i d).1 = cc in
    let was : c.unwrap-thread.result.now ≡ (get_or old i d).1 = one ∙ ap (λ (x : ℕ × Stamped). x.1) (c.loop-i.invariant.left i d (omega arith)) in
    let size = ap (λ (s : Stamped). length s.frames) was in
    omega (arith, size, starts_of_place old i d inside, c.requires.room, c.loop-i.invariant.capacity)

pub loop-i-preserved : goal.loop-i-preserved
loop-i-preserved g c =
    let f = g.S.Stamp.number_of in
    let old = c.args.threads.now.list in
    let now = c.loop-i.threads.list in
    let i = c.loop-i.i in
    let d = c.index-list-i.result in
    let same : numbers now ≡ numbers old = c.loop-i.invariant.same in
    let rising : IsRising (numbers now) = subst IsRising (sym same) c.len-i-end.ensures.rising in
    let inside : i < length old = omega (arith, c.loop-i-test.true, c.len-i-end.ensures.value) in
    let long : length now ≡ length old = numbers_long now old same in
    let tid_is : (get_or c.list.result.now i d).0 ≡ (get_or now i d).0 = ap (λ (xs : List (ℕ × Stamped)). (get_or xs i d).0) c.list.ensures in
    let here : value_of now (get_or c.list.result.now i d).0 ≡ Some (get_or now i d).1 = ap (λ t. value_of now t) tid_is ∙ value_at now i d rising (omega (arith, inside, long)) in
    let found : Some c.unwrap-thread.result.now ≡ Some (get_or now i d).1 = sym (ap option_copied_mut c.unwrap-thread.ensures) ∙ c.get_mut.ensures.found ∙ here in
    let one : c.unwrap-thread.result.now ≡ (get_or now i d).1 = cc in
    let was : c.unwrap-thread.result.now ≡ (get_or old i d).1 = one ∙ ap (λ (x : ℕ × Stamped). x.1) (c.loop-i.invariant.left i d (omega arith)) in
    let R : Stamped → Stamped → Type 0 = IsThreadRenumbered (map f c.args.starts.now) c.args.writes.now.pages in
    let new = c.renumber.new.self in
    let t = (get_or now i d).0 in
    let changed : with_value now (get_or c.list.result.now i d).0 new ≡ set now i (t, new) = ap (λ n. with_value now n new) tid_is ∙ with_at now i d new rising (omega (arith, inside, long)) in
    record {
      same = numbers-with now (get_or c.list.result.now i d).0 new ∙ same;
      done = λ k e lt. subst (λ (xs : List (ℕ × Stamped)). R (get_or old k e).1 (get_or xs k e).1) (sym changed)
          (done_more R old now i t new long inside (λ e. subst (λ s. R s new) (was ∙ ap (λ (x : ℕ × Stamped). x.1) (get_or_default old i d e inside)) c.renumber.ensures.thread) c.loop-i.invariant.done k e lt);
      left = λ k e le. ap (λ (xs : List (ℕ × Stamped)). get_or xs k e) changed ∙ left_more R old now i t new long inside c.loop-i.invariant.left k e le;
      cost = omega (arith, c.renumber.ensures.cost, ap stamps_of was, sum_by_more (λ (x : ℕ × Stamped). stamps_of x.1) old i d inside, c.loop-i.invariant.cost);
      capacity = omega (arith, c.renumber.ensures.capacity, c.loop-i.invariant.capacity);
    }

pub returns-clause-cost : goal.returns-clause-cost
returns-clause-cost g c =
    let old = c.args.threads.now.list in
    let all = take_all c.loop-i.i old (omega (arith, c.loop-i-test.false, c.len-i-end.ensures.value)) in
    c.loop-i.invariant.cost ∙ ap (λ (xs : List (ℕ × Stamped)). c.args.steps.now + sum_by (λ x. stamps_of x.1) xs) all
