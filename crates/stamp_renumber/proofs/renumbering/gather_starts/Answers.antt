use Rattle.std.proofs.Common.{◌≡◌, ◌∙◌, length, take, ap, sym, arith}
use Rattle.std.proofs.lemmas.List.{length-map}
use Rattle.shadow_stack.specs.Frames.{Stack}
use Rattle.stamp_renumber.specs.Threads.{all_starts}
use Rattle.stamp_renumber.proofs.Whole.{taken_room}
use Rattle.stamp_renumber.proofs.renumbering.gather_starts.Goals as goal

pub collect_starts-requires : goal.collect_starts-requires
collect_starts-requires g c =
    let starts = c.loop-entry.starts in
    let long : length starts.items ≡ length (all_starts (take c.loop-entry.entry-index c.args.threads.now)) = sym (length-map starts.items g.S.Stamp.number_of) ∙ ap length c.loop-entry.invariant.items in
    let count = starts.ok.0 in
    let frames = ap (λ (s : Stack). length s.list) c.frames.ensures in
    record {
      room = omega (arith, long, count, frames, c.requires, c.loop-entry.invariant.capacity, taken_room c.args.threads.now c.loop-entry.entry-index c.entry-item.result c.loop-entry-test.true c.entry-item.is);
    }
