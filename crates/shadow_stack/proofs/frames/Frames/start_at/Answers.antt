use Rattle.std.proofs.Common.{◌<◌, get_or, length, ap, subst, sym, ◌∙◌, arith}
use Rattle.std.specs.Prelude.{slice_index}
use Rattle.std.proofs.lemmas.List.{length-map}
use Rattle.shadow_stack.specs.Frames.{Stack, IsRising, starts_of}
use Rattle.shadow_stack.proofs.Places.{seen, starts_seen}
use Rattle.shadow_stack.proofs.Rising.{read_mapped}
use Rattle.shadow_stack.proofs.frames.Frames.start_at.Goals as goal

pub returns-clause-start : goal.returns-clause-start
returns-clause-start g c =
    let items = c.self.inside.entries.items in
    let starts_are = starts_seen (λ x. g.S.Stamp.number_of x.start) (λ x. x.sums) items ∙ ap (λ (s : Stack). starts_of s.list) c.self.view_is in
    let within : c.args.i < length items = omega (arith, c.requires, length-map items (seen (λ x. g.S.Stamp.number_of x.start) (λ x. x.sums)), ap (λ (s : Stack). length s.list) c.self.view_is) in
    let read = c.index-as_slice-i.result in
    let frame = get_or c.as_slice.result.now c.args.i read in
    let is = c.index-as_slice-i.is in
    let was = ap (λ x. get_or c.as_slice.result.now c.args.i x) is ∙ ap (λ xs. get_or xs c.args.i frame) c.as_slice.ensures in
    sym (read_mapped (λ x. g.S.Stamp.number_of x.start) items c.args.i frame within was)
    ∙ ap (λ starts. slice_index starts c.args.i) starts_are

pub returns-clause-rising : goal.returns-clause-rising
returns-clause-rising g c =
    let items = c.self.inside.entries.items in
    subst IsRising (starts_seen (λ x. g.S.Stamp.number_of x.start) (λ x. x.sums) items ∙ ap (λ (s : Stack). starts_of s.list) c.self.view_is) c.self.invariant.0
