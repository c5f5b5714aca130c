use Rattle.std.proofs.Common.{◌∙◌, sym}
use Rattle.trace_file.proofs.Adding.{above, some_of}
use Rattle.trace_file.proofs.reader.is_above.Goals as goal

pub returns-else-is_empty : goal.returns-else-is_empty
returns-else-is_empty c = above c.args.names.now c.args.entry _ c.requires (some_of c.args.names.now (sym c.is_empty.ensures ∙ c.if-is_empty.false))
