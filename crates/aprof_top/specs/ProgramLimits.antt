-- The limits of the program in numbers, whatever the definitions that cite their names.
use Rattle.std.specs.Prelude.{◌≡◌, ◌^◌, ◌-◌, ℕ, List, length}
use Rattle.guest_words.specs.Limits.{AreLimits}
use Rattle.cache_lines.specs.declared.shape.TheConstants.{LEAST_LINE, LINE, SETS, WAYS}
use Rattle.command_line.specs.declared.guest_options.TheConstants.{DEFAULT_BUDGET, DEFAULT_QUANTUM}
use Rattle.guest_calls.specs.Files.{path_limit, write_limit}
use Rattle.guest_kernel.specs.Inputs.{Input}
use Rattle.guest_kernel.specs.Kernel.{started}
use Rattle.guest_calls.specs.Vectors.{part_limit}
use Rattle.guest_machine.specs.Start.{strings_limit}
use Rattle.rv_asm.specs.declared.limits.TheConstants.{PROGRAM_LINES}
use Rattle.stamps.specs.Widths.{greatest}
use Rattle.stamps.specs.declared.width.StampBits.TheVariants.{B8, B16, B32}

pub record AreProgramLimits : Type 0 where
  -- pages, threads, steps, bytes of files and names, calling contexts, and the demo's routines
  pub base : AreLimits
  -- bytes of a guest's argument strings, with their zero bytes
  pub argument_bytes : strings_limit ≡ 65536
  -- of the kernel's calls: descriptors, bytes of a path with its zero byte, parts of readv and writev, bytes of one write
  pub descriptors : (inputs : List Input) (stdin : List ℕ) (first_break : ℕ) → length (started inputs stdin first_break).descriptors ≡ 32
  pub path_bytes : path_limit ≡ 4096
  pub parts : part_limit ≡ 1024
  pub write_bytes : write_limit ≡ 65536
  -- lines of a program that is assembled
  pub program_lines : PROGRAM_LINES ≡ 4000000
  -- the greatest stamp of each width
  pub stamps_of_8 : greatest B8 ≡ 2 ^ 8 - 1
  pub stamps_of_16 : greatest B16 ≡ 2 ^ 16 - 1
  pub stamps_of_32 : greatest B32 ≡ 2 ^ 32 - 1
  -- sets and ways of a cache, and the least and the greatest number of bytes of its lines
  pub sets : SETS ≡ 65536
  pub ways : WAYS ≡ 64
  pub least_line : LEAST_LINE ≡ 4
  pub line : LINE ≡ 4096
  -- steps of a turn and of a run where the words say none
  pub quantum : DEFAULT_QUANTUM ≡ 10000
  pub budget : DEFAULT_BUDGET ≡ 10 ^ 9
