use Rattle.std.proofs.Common.{◌≡◌, ap, ◌∙◌, arith}
use Rattle.std.proofs.lemmas.Result.{IfOk-weaker}
use Rattle.rv_asm.specs.Executable.{executable}
use Rattle.elf_image.specs.Image.{page_count, Executable}
use Rattle.elf_image.specs.Reading.{image_of}
use Rattle.elf_image.specs.Tests.{first_refusal}
use Rattle.demo_guest.specs.Image.{symbols}
use Rattle.demo_guest.proofs.Sizes.{few_pages, is_written}
use Rattle.demo_guest.proofs.demo.demo_image.Goals as goal

pub write_exec-requires-clause-some : goal.write_exec-requires-clause-some
write_exec-requires-clause-some c = (is_written c.args.routines c.in_ok-code.code c.requires.1 c.in_ok-code.ensures.words).some

pub write_exec-requires-clause-size : goal.write_exec-requires-clause-size
write_exec-requires-clause-size c =
    rw (c.deref.ensures.value, c.in_ok-symbols.ensures) (is_written c.args.routines c.in_ok-code.code c.requires.1 c.in_ok-code.ensures.words).size

pub returns-clause-accepted : goal.returns-clause-accepted
returns-clause-accepted c = IfOk-weaker c.write_exec.result _ _ (λ file is.
    ap first_refusal (is ∙ ap (executable c.in_ok-code.code) (c.deref.ensures.value ∙ c.in_ok-symbols.ensures))
    ∙ c.written_files_are_accepted.ensures.accepted c.in_ok-code.code (symbols c.args.routines) (is_written c.args.routines c.in_ok-code.code c.requires.1 c.in_ok-code.ensures.words)) c.write_exec.ensures.file

pub returns-clause-fits : goal.returns-clause-fits
returns-clause-fits c = IfOk-weaker c.write_exec.result _ _ (λ file is.
    (let image : image_of file.items ≡ image_of (executable c.in_ok-code.code (symbols c.args.routines))
    = ap image_of (is ∙ ap (executable c.in_ok-code.code) (c.deref.ensures.value ∙ c.in_ok-symbols.ensures)) in
    let segments = image ∙ c.written_files_are_accepted.ensures.image c.in_ok-code.code (symbols c.args.routines) (is_written c.args.routines c.in_ok-code.code c.requires.1 c.in_ok-code.ensures.words) in
    let same = ap (λ (e : Executable). page_count e.segments) segments in
    omega (arith, same, few_pages c.args.routines c.in_ok-code.code c.requires.1 c.in_ok-code.ensures.words))) c.write_exec.ensures.file
