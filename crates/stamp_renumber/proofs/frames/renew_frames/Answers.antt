use Rattle.std.proofs.Common.{◌∙◌, ℕ, List, map, ap, sym, subst}
use Rattle.shadow_stack.specs.Frames.{IsRising, restarted, starts_of}
use Rattle.stamp_renumber.proofs.Restarted.{renewed_rising, restarted_all}
use Rattle.stamp_renumber.proofs.frames.renew_frames.Goals as goal

pub renew-requires-clause-rising : goal.renew-requires-clause-rising
renew-requires-clause-rising g c =
    let f = g.S.Stamp.number_of in
    let starts = map f c.args.starts.now in
    let xs = starts_of c.args.frames.now.list in
    subst IsRising (sym (ap (map f) c.deref.ensures.value ∙ c.renewed_starts.ensures.items)) (renewed_rising starts xs c.requires.among c.renewed_starts.ensures.rising)

pub returns-clause-list : goal.returns-clause-list
returns-clause-list g c =
    let f = g.S.Stamp.number_of in
    let starts = map f c.args.starts.now in
    let old = c.args.frames.now.list in
    c.renew.ensures.list ∙ ap (λ (xs : List ℕ). restarted xs old) (ap (map f) c.deref.ensures.value ∙ c.renewed_starts.ensures.items) ∙ restarted_all starts old
