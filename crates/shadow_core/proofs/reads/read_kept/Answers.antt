use Rattle.std.proofs.Common.{◌≡◌, ◌+◌, ◌^◌, arith, cond, pos, refl, sym, ap}
use Rattle.std.proofs.lemmas.Int.{ints}
use Rattle.shadow_stack.specs.declared.sums.Sums.{Sums}
use Rattle.stamp_lanes.specs.Plain.{Place}
use Rattle.stamp_renumber.specs.Threads.{frames_of}
use Rattle.stamp_table.specs.Frames.{gain}
use Rattle.shadow_core.specs.Private.Reading.{AreSmall}
use Rattle.shadow_core.proofs.Costs.{word_within}
use Rattle.shadow_core.proofs.Reading.{one_fits, word_read}
use Rattle.shadow_core.proofs.Repeated.{not_foreign}
use Rattle.shadow_core.proofs.reads.read_kept.Goals as goal

abbrev one_of_each : Sums
one_of_each = record { plain = pos 1; bare = pos 1 }

small : AreSmall one_of_each
small = ((omega (arith, ints), omega (arith, ints)), (omega (arith, ints), omega (arith, ints)))

pub read_word-requires-clause-fits : goal.read_word-requires-clause-fits
read_word-requires-clause-fits g c = λ i. one_fits (2 ^ 62 + 2 ^ 31) i one_of_each (frames_of c.args.threads.now.threads c.args.tid) (omega arith) c.requires.sums small

pub read_word-requires-clause-fits_back : goal.read_word-requires-clause-fits_back
read_word-requires-clause-fits_back g c = λ i. one_fits (2 ^ 62 + 2 ^ 31) i c.below_zero.result (frames_of c.args.threads.now.threads c.args.tid) (omega arith) c.requires.sums c.below_zero.ensures.small

pub returns-clause-read : goal.returns-clause-read
returns-clause-read g c = λ writes marks low.
    let f = g.S.Stamp.number_of in
    let p : Place = record { own = f c.args.access.stamp; write = writes c.args.w; mark = 0 } in
    let gains : one_of_each ≡ gain p = sym (ap (λ b. record { plain = cond b (pos 0) (pos 1); bare = pos 1 }) (not_foreign p low)) in
    word_read c.args.threads.now c.read_word.new.self c.args.tid writes marks c.args.w (f c.args.stamp) p one_of_each c.below_zero.result
    c.read_word.ensures.threads c.read_word.ensures.marks c.read_word.ensures.read gains c.below_zero.ensures.value c.requires.own refl

pub returns-clause-cost : goal.returns-clause-cost
returns-clause-cost g c =
    word_within c.args.threads.now c.args.tid c.args.w (g.S.Stamp.number_of c.args.access.stamp) c.args.steps.now c.count.new.self c.read_word.new.steps c.requires.own c.count.ensures c.read_word.ensures.cost
