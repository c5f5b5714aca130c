use Rattle.std.proofs.Common.{◌-◌, ◌*◌, ◌≡◌, ◌≤◌, count_by}
use Rattle.std.specs.List.{range_with_len}
use Rattle.shadow_pages.specs.Pages.{stamp_at}
use Rattle.stamp_lanes.specs.Plain.{is_by_kernel, is_by_thread}
use Rattle.stamp_renumber.specs.Threads.{pages_of}
use Rattle.shadow_core.specs.Private.Reading.{IsRead, IsReadWithin, places_at}
use Rattle.shadow_core.proofs.reads.read_parts.Given as goal

abbrev pub invariant-loop-done : goal.invariant-loop-done
invariant-loop-done g l = record {
  few : l.done ≤ l.count;
  read : IsRead l.fn.threads l.threads l.tid (stamp_at l.writes.pages) (stamp_at l.marks.pages) l.first l.done (g.S.Stamp.number_of l.stamp);
  cost : IsReadWithin (23 * l.done) l.fn.threads l.tid l.first l.done l.fn.steps l.steps;
  thread : l.found.thread ≡ count_by is_by_thread (places_at (stamp_at (pages_of l.fn.threads.threads l.tid)) (stamp_at l.writes.pages) (stamp_at l.marks.pages) (range_with_len l.first l.done));
  kernel : l.found.kernel ≡ count_by is_by_kernel (places_at (stamp_at (pages_of l.fn.threads.threads l.tid)) (stamp_at l.writes.pages) (stamp_at l.marks.pages) (range_with_len l.first l.done));
}

abbrev pub decreases-loop-done : goal.decreases-loop-done
decreases-loop-done g l = l.count - l.done
