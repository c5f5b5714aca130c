use Rattle.std.proofs.Common.{◌≡◌, ◌∙◌, ℕ, List, ap, sym, refl}
use Rattle.std.specs.Prelude.{◌==◌}
use Rattle.std.specs.List.{position}
use Rattle.guest_words.specs.ByThread.{Table}
use Rattle.guest_words.proofs.ThreadTables.{place_none}
use Rattle.guest_words.proofs.by_thread.ByThread.search_mut.Goals as goal

pub returns-in-None : goal.returns-in-None
returns-in-None g c =
    let list_is : c.deref.result.now ≡ c.args.self.now.list = c.deref.ensures.value ∙ ap (λ (t : Table g.row.T.Denot). t.list) c.self.view_is in (
      refl,
      record {
        writes_back = tt;
        found = sym (place_none c.args.self.now.list c.args.tid (ap (λ (xs : List (ℕ × g.row.T.Denot)). position (λ x. x.0 == c.args.tid) xs) (sym list_is) ∙ sym c.in-None.ensures));
      },
    )
