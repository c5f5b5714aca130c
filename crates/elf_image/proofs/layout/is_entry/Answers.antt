use Rattle.std.proofs.Common.{◌&&◌, refl, sym, ◌∙◌}
use Rattle.std.proofs.lemmas.Bool.{eq-eqb, ne_eqb}
use Rattle.elf_image.specs.Image.{holds}
use Rattle.elf_image.specs.Segments.{segment_of}
use Rattle.elf_image.proofs.Layouts.{entry_is}
use Rattle.elf_image.proofs.Pairs.{list_any-map}
use Rattle.elf_image.proofs.layout.is_entry.Goals as goal

pub returns-then-at-eq0 : goal.returns-then-at-eq0
returns-then-at-eq0 c = λ file whole begins. entry_is file c.args.headers.now c.args.at _ whole begins
    (rw (eq-eqb _ 0 c.if-at-eq0.true) (c.is_code_in.ensures ∙ sym (list_any-map (λ s. holds s c.args.at && s.rights.exec) (segment_of file) c.args.headers.now)))

pub returns-else-at-eq0 : goal.returns-else-at-eq0
returns-else-at-eq0 c = λ file whole begins. entry_is file c.args.headers.now c.args.at _ whole begins (rw (ne_eqb _ 0 c.if-at-eq0.false) refl)
