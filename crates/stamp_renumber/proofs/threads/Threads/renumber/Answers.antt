use Rattle.std.proofs.Common.{◌≡◌, ◌∙◌, ℕ, List, length, map, Some, ap, sym, subst, arith, All}
use Rattle.std.specs.Prelude.{Contains, sum_by}
use Rattle.std.specs.List.Sorted.{IsPermutation}
use Rattle.std.proofs.lemmas.List.{length-map}
use Rattle.std.proofs.lemmas.List.Sorted.{length_permutation}
use Rattle.guest_words.specs.ByThread.{IsRising, value_of}
use Rattle.stamp_renumber.specs.Costs.{stamps_of}
use Rattle.stamp_renumber.specs.Renumbered.{IsThreadRenumbered}
use Rattle.stamp_renumber.specs.Threads.{Live, Stamped, all_starts}
use Rattle.stamp_renumber.specs.Ticks.{IsRenumbered}
use Rattle.stamp_renumber.specs.Classes.{new_write}
use Rattle.shadow_pages.specs.Pages.{stamp_at}
use Rattle.stamp_renumber.proofs.Whole.{among_sorted, by_number, numbers_long, same_count, same_thread, same_write}
use Rattle.stamp_renumber.proofs.threads.Threads.renumber.Goals as goal

pub renumber_threads-requires-clause-fit : goal.renumber_threads-requires-clause-fit
renumber_threads-requires-clause-fit g c =
    let f = g.S.Stamp.number_of in
    let xs = c.self.inside.threads.list in
    let is : xs ≡ c.args.self.now.threads = ap (λ (l : Live). l.threads) c.self.view_is in
    let sorted = c.sorted_starts.new.starts.items in
    let same : IsPermutation (all_starts xs) (map f sorted) = subst (λ (ys : List (ℕ × Stamped)). IsPermutation (all_starts ys) (map f sorted)) c.list.ensures c.sorted_starts.ensures.same in
    let long : length sorted ≡ length (all_starts c.args.self.now.threads) = sym (length-map sorted f) ∙ length_permutation (all_starts xs) (map f sorted) same ∙ ap (λ (ys : List (ℕ × Stamped)). length (all_starts ys)) is in
    let here = ap length c.deref.ensures.value in
    omega (arith, here, long, c.requires)

pub renumber_threads-requires-clause-among : goal.renumber_threads-requires-clause-among
renumber_threads-requires-clause-among g c =
    let f = g.S.Stamp.number_of in
    let xs = c.self.inside.threads.list in
    let is : xs ≡ c.args.self.now.threads = ap (λ (l : Live). l.threads) c.self.view_is in
    let sorted = c.sorted_starts.new.starts.items in
    let same : IsPermutation (all_starts xs) (map f sorted) = subst (λ (ys : List (ℕ × Stamped)). IsPermutation (all_starts ys) (map f sorted)) c.list.ensures c.sorted_starts.ensures.same in
    let long : length sorted ≡ length (all_starts c.args.self.now.threads) = sym (length-map sorted f) ∙ length_permutation (all_starts xs) (map f sorted) same ∙ ap (λ (ys : List (ℕ × Stamped)). length (all_starts ys)) is in
    subst (λ (ys : List g.row.S.Denot). All (Contains (map f ys)) (all_starts xs)) (sym c.deref.ensures.value) (among_sorted (all_starts xs) (map f sorted) same)

pub renew_writes-requires-clause-room : goal.renew_writes-requires-clause-room
renew_writes-requires-clause-room g c =
    let f = g.S.Stamp.number_of in
    let xs = c.self.inside.threads.list in
    let is : xs ≡ c.args.self.now.threads = ap (λ (l : Live). l.threads) c.self.view_is in
    let sorted = c.sorted_starts.new.starts.items in
    let same : IsPermutation (all_starts xs) (map f sorted) = subst (λ (ys : List (ℕ × Stamped)). IsPermutation (all_starts ys) (map f sorted)) c.list.ensures c.sorted_starts.ensures.same in
    let long : length sorted ≡ length (all_starts c.args.self.now.threads) = sym (length-map sorted f) ∙ length_permutation (all_starts xs) (map f sorted) same ∙ ap (λ (ys : List (ℕ × Stamped)). length (all_starts ys)) is in
    let here = ap length c.deref-2.ensures.value in
    omega (arith, here, long, c.requires)

pub invariant_of-self : goal.invariant_of-self
invariant_of-self g c =
    let f = g.S.Stamp.number_of in
    let xs = c.self.inside.threads.list in
    let is : xs ≡ c.args.self.now.threads = ap (λ (l : Live). l.threads) c.self.view_is in
    let sorted = c.sorted_starts.new.starts.items in
    let same : IsPermutation (all_starts xs) (map f sorted) = subst (λ (ys : List (ℕ × Stamped)). IsPermutation (all_starts ys) (map f sorted)) c.list.ensures c.sorted_starts.ensures.same in
    let long : length sorted ≡ length (all_starts c.args.self.now.threads) = sym (length-map sorted f) ∙ length_permutation (all_starts xs) (map f sorted) same ∙ ap (λ (ys : List (ℕ × Stamped)). length (all_starts ys)) is in
    let all = c.renumber_threads.ensures.threads in
    let new = c.renumber_threads.new.threads.list in
    let count = same_count (map f c.deref.result.now) c.args.writes.now.pages xs new (numbers_long new xs all.same) all.each in
    let kept = c.self.invariant in
    let counted = kept.counted in
    let starts_fit = kept.starts_fit in
    let renewed_fit = kept.renewed_fit in
    record {
      rising = subst IsRising (sym all.same) kept.rising;
      counted = omega (arith, counted, count);
      starts_fit = omega (arith, starts_fit, c.sorted_starts.ensures.capacity);
      renewed_fit = omega (arith, renewed_fit, c.renumber_threads.ensures.capacity);
    }

pub returns-clause-all : goal.returns-clause-all
returns-clause-all g c =
    let f = g.S.Stamp.number_of in
    let xs = c.self.inside.threads.list in
    let is : xs ≡ c.args.self.now.threads = ap (λ (l : Live). l.threads) c.self.view_is in
    let sorted = c.sorted_starts.new.starts.items in
    let same : IsPermutation (all_starts xs) (map f sorted) = subst (λ (ys : List (ℕ × Stamped)). IsPermutation (all_starts ys) (map f sorted)) c.list.ensures c.sorted_starts.ensures.same in
    let long : length sorted ≡ length (all_starts c.args.self.now.threads) = sym (length-map sorted f) ∙ length_permutation (all_starts xs) (map f sorted) same ∙ ap (λ (ys : List (ℕ × Stamped)). length (all_starts ys)) is in
    let all = c.renumber_threads.ensures.threads in
    let new = c.renumber_threads.new.threads.list in
    let old = c.args.self.now.threads in
    let writes = c.args.writes.now.pages in
    let first : map f c.deref.result.now ≡ map f sorted = ap (map f) c.deref.ensures.value in
    let second : map f c.deref-2.result.now ≡ map f sorted = ap (map f) c.deref-2.ensures.value in
    let each : (t : ℕ) (was now : Stamped) → value_of xs t ≡ Some was → value_of new t ≡ Some now → IsThreadRenumbered (all_starts xs) writes was now =
    λ t was now a b. same_thread (all_starts xs) (map f sorted) same writes was now (subst (λ (ys : List ℕ). IsThreadRenumbered ys writes was now) first (by_number (IsThreadRenumbered (map f c.deref.result.now) writes) xs new all.same all.each t was now a b))
    in
    subst (λ (live : Live). IsRenumbered live (record { threads = new; marks = c.self.inside.marks }) writes c.renew_writes.new.writes.pages) c.self.view_is (record {
      same = all.same;
      each = each;
      marks = omega arith;
      stamps = λ w. c.renew_writes.ensures.stamps w ∙ ap (λ (ys : List ℕ). new_write ys (stamp_at writes w)) second ∙ same_write (all_starts xs) (map f sorted) same (stamp_at writes w);
      covered = c.renew_writes.ensures.covered;
    })

pub returns-clause-cost : goal.returns-clause-cost
returns-clause-cost g c =
    let is = ap (λ (l : Live). sum_by (λ x. stamps_of x.1) l.threads) c.self.view_is in
    omega (arith, is, c.renumber_threads.ensures.cost, c.renew_writes.ensures.cost)
