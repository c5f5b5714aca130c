use Rattle.std.proofs.Common.{arith}
use Rattle.std.proofs.lemmas.Str.Pattern.{strip_prefix_char}
use Rattle.command_line.proofs.PlainArguments.{plain_stripped}
use Rattle.command_line.proofs.guest_options.plain_argument.Goals as goal

pub returns : goal.returns
returns c = plain_stripped c.args.word.now c.strip_prefix.result (strip_prefix_char 61 c.args.word.now c.strip_prefix.result c.strip_prefix.ensures.cases (omega arith))
