-- The state at the start.
use Rattle.std.proofs.Common.{◌<◌, ◌%◌, ◌≤◌, ◌≡◌, ℕ, ◌+◌, ◌*◌, ◌/◌, List, [], ◌∷◌, ap, refl, ◌∙◌, arith}
use Rattle.std.specs.Prelude.{replicate, slice_set}
use Rattle.elf_image.specs.Image as elf
use Rattle.elf_image.specs.Image.{Executable}
use Rattle.guest_memory.specs.Guest.{memory_of}
use Rattle.guest_memory.specs.ReservedBy.{reserved_by}
use Rattle.guest_memory.specs.Reserved.{nothing_reserved}
use Rattle.guest_kernel.specs.Inputs.{Input}
use Rattle.guest_kernel.specs.Invariant.{IsState}
use Rattle.guest_kernel.specs.Kernel.{started}
use Rattle.guest_calls.specs.Pages.{IsBreakFree}
use Rattle.guest_machine.specs.Machine.{Hart}
use Rattle.guest_machine.specs.Kept.{Parts, machine_of}
use Rattle.guest_machine.specs.Sound.{IsSoundMachine}
use Rattle.guest_machine.specs.Start.{first_break, greatest_end, stack_pointer, start, start_memory}
use Rattle.guest_machine.proofs.ImagePages.{start_free}

-- the registers of thread 1
abbrev pub first_hart : ℕ → ℕ → Hart
first_hart entry pointer = (1, record { pc = entry; regs = slice_set (replicate 32 0) 2 pointer })

pub only_hart : (h : Hart) (e entry p pointer : ℕ) → h ≡ first_hart e p → e ≡ entry → p ≡ pointer → h ∷ [] ≡ first_hart entry pointer ∷ []
only_hart h e entry p pointer is from with_pointer = ap (λ h. h ∷ []) (is ∙ ap (λ e. first_hart e p) from ∙ ap (first_hart entry) with_pointer)

pub start_is : (image : Executable) (texts : List (List ℕ)) (inputs : List Input) (stdin : List ℕ) (p : Parts) → p.harts ≡ first_hart image.entry (stack_pointer texts) ∷ [] → p.kernel.state ≡ started inputs stdin (first_break image.segments) → memory_of p.memory ≡ start_memory image texts → reserved_by p.held ≡ nothing_reserved → machine_of p ≡ start image texts inputs stdin
unfolding start machine_of
start_is image texts inputs stdin p harts kernel memory held = λ i. record { harts = harts i; kernel = kernel i; memory = memory i; held = held i }

break_is_free : (image : Executable) (texts : List (List ℕ)) → elf.IsSoundImage image → IsBreakFree (start_memory image texts) (first_break image.segments)
break_is_free image texts sound page from to =
    start_free image texts page sound.placed (omega (arith, from)) (omega (arith, to))

pub start_sound : (image : Executable) (texts : List (List ℕ)) (inputs : List Input) (stdin : List ℕ) → elf.IsSoundImage image → IsState (started inputs stdin (first_break image.segments)) → IsSoundMachine (start image texts inputs stdin)
unfolding start
start_sound image texts inputs stdin sound state = record {
  same_threads = refl;
  aligned = (sound.aligned, tt);
  state = state;
  holders = λ tid holds. absurd (cc);
  break_free = break_is_free image texts sound;
}

-- the greatest end, rounded up to a page
pub break_is : (segments : List elf.Segment) (end top : ℕ) → end ≡ greatest_end segments → end ≤ top → top < end + 4096 → top % 4096 ≡ 0 → top ≡ first_break segments
break_is segments end top last lower upper multiple =
    let rounded : top ≡ (end + 4095) / 4096 * 4096 = omega (arith, lower, upper, multiple) in
    rounded ∙ ap (λ e. (e + 4095) / 4096 * 4096) last
