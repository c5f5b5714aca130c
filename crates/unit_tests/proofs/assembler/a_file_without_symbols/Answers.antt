use Rattle.std.proofs.Common.{arith}
use Rattle.rv_asm.proofs.Sizes.{plain_size}
use Rattle.unit_tests.proofs.assembler.a_file_without_symbols.Goals as goal

pub write_exec-requires-clause-size : goal.write_exec-requires-clause-size
write_exec-requires-clause-size g c = omega (arith, plain_size c.in_ok-code.code, c.in_ok-code.ensures)
