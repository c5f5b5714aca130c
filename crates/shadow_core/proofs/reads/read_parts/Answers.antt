use Rattle.std.proofs.Common.{◌+◌, ◌*◌, ◌<◌, ◌^◌, sym, subst, arith, refl}
use Rattle.std.specs.Prelude.{All}
use Rattle.shadow_pages.specs.Pages.{stamp_at}
use Rattle.stamp_lanes.specs.Plain.{is_by_kernel, is_by_thread}
use Rattle.stamp_renumber.specs.Threads.{frames_of, pages_of}
use Rattle.shadow_core.proofs.Costs.{within_alone, within_on}
use Rattle.shadow_core.proofs.PartReads.{count_few, counts_on}
use Rattle.shadow_core.proofs.Reading.{length_read, nothing_read, read_on, read_within, starts_read, within_more}
use Rattle.shadow_core.proofs.reads.read_parts.Goals as goal

pub loop-done-init : goal.loop-done-init
loop-done-init g c = record {
  few = omega arith;
  read = nothing_read c.args.threads.now c.args.tid (stamp_at c.args.writes.now.pages) (stamp_at c.args.marks.now.pages) c.args.first (g.S.Stamp.number_of c.args.stamp) c.requires.lives;
  cost = within_alone 0 c.args.threads.now c.args.tid c.args.first 0 c.args.steps.now c.args.steps.now (omega arith);
  thread = refl;
  kernel = refl;
}

pub read_part-more-requires-clause-depth : goal.read_part-more-requires-clause-depth
read_part-more-requires-clause-depth g c =
    let same = length_read c.args.threads.now c.loop-done.threads c.args.tid (stamp_at c.args.writes.now.pages) (stamp_at c.args.marks.now.pages) c.args.first c.loop-done.done (g.S.Stamp.number_of c.args.stamp) c.requires.lives c.loop-done.invariant.read in
    omega (arith, same, c.requires.depth)

pub read_part-more-requires-clause-starts : goal.read_part-more-requires-clause-starts
read_part-more-requires-clause-starts g c =
    let same = starts_read c.args.threads.now c.loop-done.threads c.args.tid (stamp_at c.args.writes.now.pages) (stamp_at c.args.marks.now.pages) c.args.first c.loop-done.done (g.S.Stamp.number_of c.args.stamp) c.requires.lives c.loop-done.invariant.read in
    subst (All (λ s. 0 < s)) (sym same) c.requires.starts

pub read_part-more-requires-clause-sums : goal.read_part-more-requires-clause-sums
read_part-more-requires-clause-sums g c =
    let after = read_within c.args.threads.now c.loop-done.threads c.args.tid (stamp_at c.args.writes.now.pages) (stamp_at c.args.marks.now.pages) c.args.first c.loop-done.done (g.S.Stamp.number_of c.args.stamp) c.requires.lives c.loop-done.invariant.read (2 ^ 62) c.requires.sums in
    within_more (2 ^ 62 + c.loop-done.done) (2 ^ 62 + 2 ^ 30) (frames_of c.loop-done.threads.threads c.args.tid) (omega (arith, c.loop-done.invariant.few, c.requires.end)) after

pub overflow_add-found : goal.overflow_add-found
overflow_add-found g c =
    let write = stamp_at c.args.writes.now.pages in
    let marks = stamp_at c.args.marks.now.pages in
    let one = count_few is_by_thread (stamp_at (pages_of c.args.threads.now.threads c.args.tid)) write marks c.args.first c.loop-done.done in
    let two = count_few is_by_thread (stamp_at (pages_of c.loop-done.threads.threads c.args.tid)) write marks c.word_at-at.result c.part_size-size.result in
    omega (arith, one, two, c.loop-done.invariant.thread, c.read_part-more.ensures.thread, c.loop-done.invariant.few, c.part_size-size.ensures.left, c.requires.end)

pub overflow_add-found-in-loop-done : goal.overflow_add-found-in-loop-done
overflow_add-found-in-loop-done g c =
    let write = stamp_at c.args.writes.now.pages in
    let marks = stamp_at c.args.marks.now.pages in
    let one = count_few is_by_kernel (stamp_at (pages_of c.args.threads.now.threads c.args.tid)) write marks c.args.first c.loop-done.done in
    let two = count_few is_by_kernel (stamp_at (pages_of c.loop-done.threads.threads c.args.tid)) write marks c.word_at-at.result c.part_size-size.result in
    omega (arith, one, two, c.loop-done.invariant.kernel, c.read_part-more.ensures.kernel, c.loop-done.invariant.few, c.part_size-size.ensures.left, c.requires.end)

pub loop-done-preserved : goal.loop-done-preserved
loop-done-preserved g c =
    let old = c.args.threads.now in
    let now = c.loop-done.threads in
    let t = c.args.tid in
    let write = stamp_at c.args.writes.now.pages in
    let marks = stamp_at c.args.marks.now.pages in
    let stamp = g.S.Stamp.number_of c.args.stamp in
    let size = c.part_size-size.result in
    let one = c.loop-done.invariant.read in
    record {
      few = omega (arith, c.loop-done.invariant.few, c.part_size-size.ensures.left, c.loop-done-test.true);
      read = read_on old now t write marks c.args.first c.loop-done.done stamp c.requires.lives one c.read_part-more.new.threads c.word_at-at.result size c.word_at-at.ensures c.read_part-more.ensures.read;
      cost = within_on old now t write marks c.args.first c.loop-done.done stamp c.requires.lives one (23 * c.loop-done.done) (23 * size) (23 * (c.loop-done.done + size)) c.word_at-at.result size c.args.steps.now c.loop-done.steps c.read_part-more.new.steps
          c.word_at-at.ensures (omega arith) c.loop-done.invariant.cost c.read_part-more.ensures.cost;
      thread = counts_on is_by_thread old now t write marks c.args.first c.loop-done.done stamp c.requires.lives one c.word_at-at.result size c.loop-done.found.thread c.read_part-more.result.thread c.word_at-at.ensures c.loop-done.invariant.thread c.read_part-more.ensures.thread;
      kernel = counts_on is_by_kernel old now t write marks c.args.first c.loop-done.done stamp c.requires.lives one c.word_at-at.result size c.loop-done.found.kernel c.read_part-more.result.kernel c.word_at-at.ensures c.loop-done.invariant.kernel c.read_part-more.ensures.kernel;
    }
