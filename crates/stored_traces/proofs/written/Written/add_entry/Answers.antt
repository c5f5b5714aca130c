use Rattle.std.proofs.Common.{ap, subst, ◌∙◌, sym}
use Rattle.stored_traces.specs.Kept.{IsWrittenOf, Written, all_entries}
use Rattle.stored_traces.proofs.EntrySets.{insert_is}
use Rattle.stored_traces.proofs.written.Written.add_entry.Goals as goal

pub returns-in_ok-insert-clause-stands : goal.returns-in_ok-insert-clause-stands
returns-in_ok-insert-clause-stands c = λ past is.
    let was = subst (λ (w : Written). IsWrittenOf w past) (sym c.self.view_is) is in
    let keys = c.self.inside.text.entries.keys in
    record {
      earlier = was.earlier;
      all = was.all;
      text = was.text;
      entries = c.in_ok-insert.ensures.keys ∙ insert_is c.in-Some.entry keys ∙ ap (all_entries keys) (sym c.in-Some.is) ∙ was.entries;
    }
