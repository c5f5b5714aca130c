-- What a call is made with and what it results in, and the words in which the calls are written.
use Rattle.std.specs.Prelude.{ℕ, ◌+◌, ◌/◌, Bool, true, false, not, ◌==◌, bit_and, List, [], ◌∷◌, ◌++◌, length, slice_index, Option, Some, None, if◌then◌else◌}
use Rattle.std.specs.Int.{w32, to_le_bytes}
use Rattle.trace_model.specs.declared.event_kinds.Event.{Event}
use Rattle.guest_memory.specs.Memory.{Memory, with_bytes, number_at}
use Rattle.guest_memory.specs.Reserved.{Reserved, after_write, without_thread}
use Rattle.rv_exec.specs.Accesses.{can_read, can_write}
use Rattle.rv_exec.specs.Registers.{Registers}
use Rattle.guest_kernel.specs.declared.answer.Answer.{Answer}
use Rattle.guest_kernel.specs.declared.answer.Answer.TheVariants.{Back}
use Rattle.guest_kernel.specs.declared.channel.Channel.{Channel}
use Rattle.guest_kernel.specs.declared.descriptor.Descriptor.{Descriptor}
use Rattle.guest_kernel.specs.Kernel.{KernelState, with_descriptor, output}
use Rattle.guest_kernel.specs.Copies.{fill_event, read_event, words_touched}

-- ---- a call and its result
-- the calling thread and its registers, and all that a call can look at
pub record Syscall : Type 0 where
  pub tid : ℕ
  pub registers : Registers
  pub kernel : KernelState
  pub memory : Memory
  pub held : Reserved

-- the number of the call, in a7, and its arguments, in a0 to a5
abbrev pub number : Syscall → ℕ
number c = slice_index c.registers.regs 17

abbrev pub arg : Syscall → ℕ → ℕ
arg c i = slice_index c.registers.regs (10 + i)

-- what a call leaves of the guest: its memory, the reservations, and the copies from and to it, in order
pub record Guest : Type 0 where
  pub memory : Memory
  pub held : Reserved
  pub events : List Event

pub record SyscallResult : Type 0 where
  pub answer : Answer
  pub kernel : KernelState
  pub guest : Guest
  -- bytes that go out, with their channel
  pub out : Option (Channel × List ℕ)

-- nothing changes, and this is answered
abbrev pub returns : Syscall → ℕ → SyscallResult
returns c value = record {
  answer = Back value;
  kernel = c.kernel;
  guest = record { memory = c.memory; held = c.held; events = [] };
  out = None;
}

-- ---- tests before an effect
-- the answer where the test holds
infix 7 ◌⇒◌
abbrev pub ◌⇒◌ : Bool → ℕ → List (Bool × ℕ)
test ⇒ value = (test, value) ∷ []

-- one test after another
infixr 6 ◌or◌
abbrev pub ◌or◌ : List (Bool × ℕ) → List (Bool × ℕ) → List (Bool × ℕ)
first or others = first ++ others

-- the answer of the first test that holds
abbrev pub first_answer : List (Bool × ℕ) → Option ℕ
first_answer [] = None
first_answer (t ∷ ts) = if t.0 then Some t.1 else first_answer ts

abbrev pub answered_or : Option ℕ → Syscall → (Unit {0} → SyscallResult) → SyscallResult
answered_or (Some value) c effect = returns c value
answered_or None c effect = effect tt

-- The first test that holds gives the answer, and nothing changes. Where none holds, the effect takes place.
abbrev pub unless : Syscall → List (Bool × ℕ) → (Unit {0} → SyscallResult) → SyscallResult
unless c tests effect = answered_or (first_answer tests) c effect

-- ---- effects, one after another
infixl 3 ◌▷◌
abbrev pub ◌▷◌ : SyscallResult → (SyscallResult → SyscallResult) → SyscallResult
r ▷ effect = effect r

-- the first effect where the test holds, else the second
abbrev pub either : Bool → (SyscallResult → SyscallResult) → (SyscallResult → SyscallResult) → SyscallResult → SyscallResult
either true first second = first
either false first second = second

abbrev pub when : Bool → (SyscallResult → SyscallResult) → SyscallResult → SyscallResult
when true effect = effect
when false effect = λ r. r

abbrev pub answers : Answer → SyscallResult → SyscallResult
answers answer r = record r { answer = answer }

-- the kernel's own state changes
abbrev pub changes : (KernelState → KernelState) → SyscallResult → SyscallResult
changes change r = record r { kernel = change r.kernel }

-- a number stands for something else
abbrev pub sets : ℕ → Descriptor → SyscallResult → SyscallResult
sets fd d = changes (λ k. with_descriptor k fd d)

-- the kernel reads `n` bytes for the thread
abbrev pub reads : ℕ → ℕ → ℕ → SyscallResult → SyscallResult
reads tid at n r = record r { guest = record r.guest { events = r.guest.events ++ read_event tid at n } }

-- the guest after the kernel has written the bytes, which drops all reservations on their words
abbrev pub filled : ℕ → List ℕ → Guest → Guest
filled at bytes g = record {
  memory = with_bytes g.memory at bytes;
  held = after_write g.held None (at / 4) (words_touched at (length bytes));
  events = g.events ++ fill_event at (length bytes);
}

-- the kernel writes the bytes
abbrev pub fills : ℕ → List ℕ → SyscallResult → SyscallResult
fills at bytes r = record r { guest = filled at bytes r.guest }

-- it writes the number as a word
abbrev pub fills_word : ℕ → ℕ → SyscallResult → SyscallResult
fills_word at n = fills at (to_le_bytes w32 n)

-- the guest after the kernel has written the number as a word, where that is asked for
abbrev pub filled_where : Bool → ℕ → ℕ → Guest → Guest
filled_where true at n g = filled at (to_le_bytes w32 n) g
filled_where false at n g = g

abbrev pub fills_word_where : Bool → ℕ → ℕ → SyscallResult → SyscallResult
fills_word_where asked at n r = record r { guest = filled_where asked at n r.guest }

-- the thread has nothing reserved, and the others have what they had
abbrev pub forgets : ℕ → SyscallResult → SyscallResult
forgets tid r = record r { guest = record r.guest { held = without_thread r.guest.held tid } }

-- bytes go out on the channel
abbrev pub puts : Channel → List ℕ → SyscallResult → SyscallResult
puts channel bytes r = record r { out = output channel bytes }

-- ---- what the tests look at
-- each of `n` bytes is mapped and can be read
abbrev pub readable : Syscall → ℕ → ℕ → Bool
readable c at n = can_read c.memory at n

abbrev pub writable : Syscall → ℕ → ℕ → Bool
writable c at n = can_write c.memory at n

-- the word at an address
abbrev pub word : Syscall → ℕ → ℕ
word c at = number_at c.memory at 4

-- any of these bits is set
abbrev pub has : ℕ → ℕ → Bool
has flags bits = not (bit_and flags bits == 0)
