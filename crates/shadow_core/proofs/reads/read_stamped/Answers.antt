use Rattle.std.proofs.Common.{◌+◌, ◌^◌, arith}
use Rattle.stamp_lanes.specs.Plain.{Place}
use Rattle.stamp_renumber.specs.Threads.{frames_of}
use Rattle.shadow_core.proofs.Costs.{word_within}
use Rattle.shadow_core.proofs.Reading.{one_fits, word_read}
use Rattle.shadow_core.proofs.reads.read_stamped.Goals as goal

pub read_word-requires-clause-fits : goal.read_word-requires-clause-fits
read_word-requires-clause-fits g c = λ i. one_fits (2 ^ 62 + 2 ^ 31) i c.gain_of-gain.result (frames_of c.args.threads.now.threads c.args.tid) (omega arith) c.requires.sums c.gain_of-gain.ensures.small

pub read_word-requires-clause-fits_back : goal.read_word-requires-clause-fits_back
read_word-requires-clause-fits_back g c = λ i. one_fits (2 ^ 62 + 2 ^ 31) i c.below_zero.result (frames_of c.args.threads.now.threads c.args.tid) (omega arith) c.requires.sums c.below_zero.ensures.small

pub returns-clause-read : goal.returns-clause-read
returns-clause-read g c = λ writes marks written.
    let f = g.S.Stamp.number_of in
    let p : Place = record { own = f c.args.access.stamp; write = f c.args.write; mark = 0 } in
    word_read c.args.threads.now c.read_word.new.self c.args.tid writes marks c.args.w (f c.args.stamp) p c.gain_of-gain.result c.below_zero.result
    c.read_word.ensures.threads c.read_word.ensures.marks c.read_word.ensures.read c.gain_of-gain.ensures.value c.below_zero.ensures.value c.requires.own written

pub returns-clause-cost : goal.returns-clause-cost
returns-clause-cost g c =
    word_within c.args.threads.now c.args.tid c.args.w (g.S.Stamp.number_of c.args.access.stamp) c.args.steps.now c.count.new.self c.read_word.new.steps c.requires.own c.count.ensures c.read_word.ensures.cost
