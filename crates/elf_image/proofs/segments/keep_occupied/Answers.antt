use Rattle.std.proofs.Common.{rules}
use Rattle.std.proofs.lemmas.List.Elements.{filter_from_retain}
use Rattle.elf_image.specs.Segments.{is_occupied}
use Rattle.elf_image.proofs.segments.keep_occupied.Goals as goal

pub returns : goal.returns
returns c = filter_from_retain _ is_occupied (λ f h b g called. search rules) _ _ _ c.retain.ensures.filtered
