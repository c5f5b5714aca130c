use Rattle.std.proofs.Common.{◌∙◌, ◌++◌, ◌∷◌, [], ap, arith}
use Rattle.call_tracker.specs.ThreadCalls.{Counts}
use Rattle.stamp_table.specs.Records.{record_of}
use Rattle.shadow_core.proofs.Popped.{fits_pop, one_ended}
use Rattle.shadow_core.proofs.endings.end_call.Goals as goal

pub end-ended-requires-clause-fits : goal.end-ended-requires-clause-fits
end-ended-requires-clause-fits g c = fits_pop _ c.requires.sums

pub record_call-requires-clause-thread : goal.record_call-requires-clause-thread
record_call-requires-clause-thread g c = let same = ap (λ (k : Counts). k.thread) c.end-ended.ensures.counted in omega (arith, same, c.requires.thread)

pub record_call-requires-clause-kernel : goal.record_call-requires-clause-kernel
record_call-requires-clause-kernel g c = let same = ap (λ (k : Counts). k.kernel) c.end-ended.ensures.counted in omega (arith, same, c.requires.kernel)

pub returns-clause-ended : goal.returns-clause-ended
returns-clause-ended g c =
    let t = c.args.tid in
    let e = c.end-ended.ensures in
    let r = c.end-ended.result in
    one_ended t c.args.threads.now c.end-ended.new.self c.args.done.now.items c.record_call.new.done.items r.sums r.call
    e.popped e.threads e.list e.counts
    (c.record_call.ensures.recorded ∙ ap (λ (k : Counts). c.args.done.now.items ++ record_of t k r.sums r.call ∷ []) e.counted)
