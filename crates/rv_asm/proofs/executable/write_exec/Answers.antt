use Rattle.std.proofs.Common.{◌≤◌, ◌*◌, length, arith}
use Rattle.guest_words.specs.declared.limits.TheConstants.{FILE_BYTES}
use Rattle.rv_asm.specs.Executable.{strings_end}
use Rattle.rv_asm.proofs.Sizes.{named_within, plain_within}
use Rattle.rv_asm.proofs.executable.write_exec.Goals as goal

pub plain_file-requires : goal.plain_file-requires
plain_file-requires c =
    let small : 4 * length c.args.code.now ≤ FILE_BYTES = plain_within _ _ _ c.is_empty.ensures c.if-is_empty.true c.requires.size in
    rw c.words.ensures.words (omega arith)

pub named_file-requires : goal.named_file-requires
named_file-requires c =
    let small : strings_end c.args.code.now c.args.symbols.now ≤ FILE_BYTES = named_within _ _ _ c.is_empty.ensures c.if-is_empty.false c.requires.size in
    rw c.words-else-is_empty.ensures.words (omega arith)
