-- The run of a demo.
use Rattle.std.proofs.Common.{◌≡◌, ℕ, List, [], ap, ap₂, ◌∙◌}
use Rattle.trace_model.specs.Depth.{is_within}
use Rattle.command_line.specs.Options.{GuestOptions, arguments}
use Rattle.elf_image.specs.Image.{Executable}
use Rattle.elf_image.specs.Reading.{image_of}
use Rattle.guest_kernel.specs.Inputs.{Input}
use Rattle.guest_machine.specs.Start.{start}
use Rattle.guest_run.specs.ObservedRun.{ObservedRun}
use Rattle.stamps.specs.declared.width.StampBits.TheVariants.{B32}
use Rattle.stamps.specs.Widths.{greatest}
use Rattle.thread_sched.specs.declared.entry.Entry.{Entry}
use Rattle.aprof_top.specs.Private.Demos.{demo_seen}
use Rattle.aprof_top.specs.Private.Jobs.{summed}
use Rattle.aprof_top.specs.Outcome.{demo_files, demo_options, demo_outcome}
use Rattle.aprof_top.specs.Report.{report_of}
use Rattle.aprof_top.specs.Run.{first_state, observed_from, run_of}
use Rattle.aprof_top.specs.Summary.{summary_text}

-- its summary is the outcome
pub demo_answer : (number : ℕ) (image : Executable) (seen : ObservedRun) (out : List ℕ) → out ≡ summary_text number (report_of image.names seen.finish seen.past) →
    (file : List ℕ) → image ≡ image_of file → seen ≡ run_of B32 demo_options (demo_files file) [] →
    summed out ≡ demo_outcome number (image_of file) (run_of B32 demo_options (demo_files file) [])
demo_answer number image seen out is file image_is runs =
    ap summed is ∙ ap₂ (demo_outcome number) image_is runs

-- what is observed of its executable's run is that of the file
pub demo_run : (file : List ℕ) (image : Executable) → image ≡ image_of file → demo_seen image ≡ run_of B32 demo_options (demo_files file) []
unfolding first_state
demo_run file image is = ap demo_seen is

-- the run of an executable, without files and with all defaults
pub demo_seen_by : (image : Executable) (options : GuestOptions) (turns : List Entry) (files : List Input) (stdin : List ℕ) →
    options ≡ demo_options → turns ≡ [] → files ≡ [] → stdin ≡ [] →
    observed_from (is_within (greatest B32)) options turns image.entry (start image (arguments options) files stdin) ≡ demo_seen image
demo_seen_by image options turns files stdin options_are no_turns no_files no_stdin =
    ap (λ o. observed_from (is_within (greatest B32)) o turns image.entry (start image (arguments o) files stdin)) options_are
    ∙ ap (λ t. observed_from (is_within (greatest B32)) demo_options t image.entry (start image (arguments demo_options) files stdin)) no_turns
    ∙ ap₂ (λ f s. observed_from (is_within (greatest B32)) demo_options [] image.entry (start image (arguments demo_options) f s)) no_files no_stdin
