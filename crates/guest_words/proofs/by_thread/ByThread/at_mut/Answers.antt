use Rattle.std.proofs.Common.{◌≡◌, ◌∙◌, ℕ, List, ap, sym, subst, set, Some, refl, ◌-◌}
use Rattle.std.specs.Prelude.{◌==◌, vec_len}
use Rattle.std.specs.Vec.{vec_capacity}
use Rattle.std.specs.List.{position}
use Rattle.guest_words.specs.ByThread.{IsRising, Table, numbers, value_of, with_value}
use Rattle.guest_words.specs.LentValue.{with_entry}
use Rattle.guest_words.proofs.ThreadTables.{place_found, numbers-with}
use Rattle.guest_words.proofs.by_thread.ByThread.at_mut.Goals as goal

pub invariant_of-self-lent : goal.invariant_of-self-lent
invariant_of-self-lent g c = λ w.
    let items = c.self.inside.entries.items in
    let entry = c.index_mut-entry.result.now in
    let list_is : items ≡ c.args.self.now.list = ap (λ (t : Table g.row.T.Denot). t.list) c.self.view_is in
    let place = place_found items c.args.tid c.args.index entry (ap (λ (xs : List (ℕ × g.row.T.Denot)). position (λ x. x.0 == c.args.tid) xs) list_is ∙ c.requires) in
    subst IsRising
    (sym (ap numbers (ap (λ (e : ℕ × g.row.T.Denot). set items c.args.index (e.0, w)) c.index_mut-entry.ensures.value ∙ place.after w) ∙ numbers-with items c.args.tid w))
    c.self.invariant

pub returns : goal.returns
returns g c =
    let entries = c.self.inside.entries in
    let items = entries.items in
    let entry = c.index_mut-entry.result.now in
    let list_is : items ≡ c.args.self.now.list = ap (λ (t : Table g.row.T.Denot). t.list) c.self.view_is in
    let place = place_found items c.args.tid c.args.index entry (ap (λ (xs : List (ℕ × g.row.T.Denot)). position (λ x. x.0 == c.args.tid) xs) list_is ∙ c.requires) in
    let moved : (w : g.row.T.Denot) → set items c.args.index (entry.0, w) ≡ with_value items c.args.tid w =
    λ w. ap (λ (e : ℕ × g.row.T.Denot). set items c.args.index (e.0, w)) c.index_mut-entry.ensures.value ∙ place.after w
    in (
      (refl, λ w. ap (λ (xs : List (ℕ × g.row.T.Denot)). record { list = xs; room = vec_capacity entries - vec_len entries }) (moved w) ∙ ap (λ (t : Table g.row.T.Denot). with_entry t c.args.tid w) c.self.view_is),
      record {
        writes_back = tt;
        found = ap (λ (xs : List (ℕ × g.row.T.Denot)). value_of xs c.args.tid) (sym list_is) ∙ place.value ∙ ap (λ (e : ℕ × g.row.T.Denot). Some e.1) (sym c.index_mut-entry.ensures.value);
      },
    )
