-- What a command that runs a guest has before its run: the image and the schedule, read from its files.
use Rattle.std.specs.Prelude.{◌≡◌, ◌⊎◌, Some, None, Result, Ok, Err}
use Rattle.elf_image.specs.Reading.{image_of}
use Rattle.elf_image.specs.Tests.{first_refusal}
use Rattle.aprof_top.specs.Loads.{Loaded}
use Rattle.aprof_top.specs.Schedules.{Reads}
use Rattle.aprof_top.specs.Schedules.Reading.{BadLine, Turns}
use Rattle.aprof_top.specs.declared.ending.Ending.{Ending}
use Rattle.aprof_top.specs.declared.ending.Ending.TheVariants.{Decided, OutOfMemory}
use Rattle.aprof_top.specs.declared.ending.Verdict.TheVariants.{BadImage, BadSchedule}
use Rattle.aprof_top.specs.declared.preparation.Prepared as declared

-- what refuses the files: the image, or else the schedule
abbrev pub Refuses : Loaded → Ending → Type 0
Refuses loaded (Decided (BadImage e)) = first_refusal loaded.image ≡ Some e
Refuses loaded (Decided (BadSchedule line)) = (first_refusal loaded.image ≡ None) × Reads loaded.schedule (BadLine line)
Refuses loaded _ = ⊥

-- The image and the schedule of these files were read, and this is the guest with its files.
pub record ArePrepared (loaded : Loaded) (prepared : declared.Prepared) : Type 0 where
  pub accepted : first_refusal loaded.image ≡ None
  pub image : prepared.image ≡ image_of loaded.image
  pub read : Reads loaded.schedule (Turns prepared.files.schedule)
  pub inputs_are : prepared.files.inputs ≡ loaded.inputs
  pub stdin : prepared.files.stdin.items ≡ loaded.stdin

-- how the preparation of a guest ends
abbrev pub Prepares : Loaded → Result declared.Prepared Ending → Type 0
Prepares loaded (Ok prepared) = ArePrepared loaded prepared
Prepares loaded (Err e) = Refuses loaded e ⊎ (e ≡ OutOfMemory)
