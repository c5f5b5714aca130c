-- The run of a demo's executable.
use Rattle.std.specs.Prelude.{◌≡◌, ◌≤◌, ◌-◌, ℕ, List, []}
use Rattle.command_line.specs.Options.{arguments}
use Rattle.demo_guest.specs.Image.{IsDemoFile}
use Rattle.elf_image.specs.Image.{Executable, page_count}
use Rattle.elf_image.specs.Reading.{image_of}
use Rattle.guest_machine.specs.Start.{start}
use Rattle.guest_run.specs.ObservedRun.{ObservedRun}
use Rattle.guest_words.specs.declared.limits.TheConstants.{PAGES, STACK_PAGES}
use Rattle.stamps.specs.Widths.{greatest}
use Rattle.stamps.specs.declared.width.StampBits.TheVariants.{B32}
use Rattle.trace_model.specs.Depth.{is_within}
use Rattle.aprof_top.specs.Outcome.{demo_options}
use Rattle.aprof_top.specs.Run.{observed_from}

-- This is the demo's executable, and it leaves room for the stack.
pub record IsDemoImage (number : ℕ) (image : Executable) : Type 0 where
  pub file : List ℕ
  pub is_demo : IsDemoFile number file
  pub image_is : image ≡ image_of file
  pub fits : page_count image.segments ≤ PAGES - STACK_PAGES

-- what is observed of its run, without files and with all defaults
abbrev pub demo_seen : Executable → ObservedRun
demo_seen image = observed_from (is_within (greatest B32)) demo_options [] image.entry (start image (arguments demo_options) [] [])
