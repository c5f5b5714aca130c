use Rattle.std.proofs.Common.{◌∙◌, ◌≤◌, ◌-◌, ap, subst, sym}
use Rattle.elf_image.specs.Image.{Executable, page_count}
use Rattle.elf_image.specs.Reading.{image_of}
use Rattle.guest_words.specs.declared.limits.TheConstants.{PAGES, STACK_PAGES}
use Rattle.aprof_top.proofs.demo.image_of_demo.Goals as goal

pub returns-clause-image : goal.returns-clause-image
returns-clause-image c =
    let is = c.in_ok-image.ensures.image ∙ ap image_of c.as_slice.ensures.value in
    record {
      file = c.in_ok-file.file.items;
      is_demo = c.in_ok-file.ensures.file;
      image_is = is;
      fits = subst (λ (i : Executable). page_count i.segments ≤ PAGES - STACK_PAGES) (sym is) c.in_ok-file.ensures.fits;
    }
