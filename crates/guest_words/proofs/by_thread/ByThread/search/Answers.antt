use Rattle.std.proofs.Common.{rules, ◌≡◌, ◌∙◌, ℕ, List, ap, sym, Some, None}
use Rattle.std.specs.Prelude.{◌==◌}
use Rattle.std.specs.Option.{option_copied}
use Rattle.std.specs.List.{position}
use Rattle.guest_words.specs.ByThread.{Table, value_of}
use Rattle.guest_words.proofs.ThreadTables.{place_none, place_found}
use Rattle.guest_words.proofs.by_thread.ByThread.search.Goals as goal

pub returns-in_err-index : goal.returns-in_err-index
returns-in_err-index g c =
    let list_is : c.deref.result.now ≡ c.args.self.now.list = c.deref.ensures.value ∙ ap (λ (t : Table g.row.T.Denot). t.list) c.self.view_is in
    let none : option_copied c.from_residual.result ≡ None = search rules in
    none ∙ sym (place_none c.args.self.now.list c.args.tid (ap (λ (xs : List (ℕ × g.row.T.Denot)). position (λ x. x.0 == c.args.tid) xs) (sym list_is) ∙ sym c.in_err-index.ensures))

pub returns : goal.returns
returns g c =
    let items = c.self.inside.entries.items in
    let list_is : items ≡ c.args.self.now.list = ap (λ (t : Table g.row.T.Denot). t.list) c.self.view_is in
    let found : position (λ x. x.0 == c.args.tid) items ≡ Some c.in_ok-index.index =
    ap (λ (xs : List (ℕ × g.row.T.Denot)). position (λ x. x.0 == c.args.tid) xs) (sym c.deref.ensures.value) ∙ sym c.in_ok-index.ensures
    in
    ap (λ (e : ℕ × g.row.T.Denot). Some e.1) c.index.ensures ∙ sym (place_found items c.args.tid c.in_ok-index.index c.index.result.now found).value
    ∙ ap (λ (xs : List (ℕ × g.row.T.Denot)). value_of xs c.args.tid) list_is
