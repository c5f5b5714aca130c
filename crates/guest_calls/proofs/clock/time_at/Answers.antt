use Rattle.std.proofs.Common.{arith}
use Rattle.guest_memory.specs.Guest.{memory_of}
use Rattle.guest_kernel.proofs.Reach.{readable_end, reads_within}
use Rattle.guest_calls.proofs.clock.time_at.Goals as goal

pub overflow_add-at : goal.overflow_add-at
overflow_add-at c = omega (arith, readable_end (memory_of c.args.memory.now) c.args.at 16 c.requires.reach (omega arith))

pub word_at-requires-2 : goal.word_at-requires-2
word_at-requires-2 c = reads_within (memory_of c.args.memory.now) c.args.at 16 4 4 c.requires.reach (omega arith)

pub overflow_add-at-2 : goal.overflow_add-at-2
overflow_add-at-2 c = omega (arith, readable_end (memory_of c.args.memory.now) c.args.at 16 c.requires.reach (omega arith))

pub word_at-requires-3 : goal.word_at-requires-3
word_at-requires-3 c = reads_within (memory_of c.args.memory.now) c.args.at 16 8 4 c.requires.reach (omega arith)
