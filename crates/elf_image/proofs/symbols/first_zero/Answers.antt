use Rattle.elf_image.proofs.NameTexts.{first_is}
use Rattle.elf_image.proofs.symbols.first_zero.Goals as goal

pub returns : goal.returns
returns c = first_is c.args.bytes.now c.memchr.result c.memchr.ensures
