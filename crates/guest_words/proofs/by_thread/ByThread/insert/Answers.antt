use Rattle.std.proofs.Common.{◌≡◌, ◌<◌, ℕ, List, ap, sym, subst, All}
use Rattle.guest_words.specs.ByThread.{IsRising, Table, numbers}
use Rattle.guest_words.proofs.ThreadTables.{rising_pushed}
use Rattle.guest_words.proofs.by_thread.ByThread.insert.Goals as goal

pub invariant_of-self-2 : goal.invariant_of-self-2
invariant_of-self-2 g c =
    let items = c.self.inside.entries.items in
    let list_is : items ≡ c.args.self.now.list = ap (λ (t : Table g.row.T.Denot). t.list) c.self.view_is in
    let below : All (λ n. n < c.args.tid) (numbers items) = subst (λ (xs : List (ℕ × g.row.T.Denot)). All (λ n. n < c.args.tid) (numbers xs)) (sym list_is) c.requires.above in
    subst (λ (xs : List (ℕ × g.row.T.Denot)). IsRising (numbers xs)) (sym c.in_ok-push.ensures.items) (rising_pushed items c.args.tid c.args.value c.self.invariant below)
