-- The calls on files are lawful.
use Rattle.std.proofs.Common.{◌≡◌, ℕ, ◌≤◌, ◌+◌, ◌-◌, true, false, length, Option, Some, None, arith, refl, sym}
use Rattle.std.specs.Prelude.{not, is_none, min, unwrap_or, unsigned_abs}
use Rattle.std.specs.Int.{w64, to_le_bytes}
use Rattle.std.specs.Option.{option_map_or}
use Rattle.std.proofs.lemmas.Bool.{not-false}
use Rattle.rv_exec.specs.Accesses.{can_read}
use Rattle.guest_kernel.specs.declared.answer.Answer.TheVariants.{Back}
use Rattle.guest_kernel.specs.declared.descriptor.Descriptor.{Descriptor}
use Rattle.guest_kernel.specs.declared.descriptor.Descriptor.TheVariants.{Closed, StandardInput, Output, InputFile}
use Rattle.guest_kernel.specs.Descriptors.{advanced, least_free, with_position}
use Rattle.guest_calls.specs.Files.{close, close_tests, ends_path, input_index, llseek, llseek_effect, llseek_tests, openat, openat_effect, openat_tests, path_end, read, read_bytes, read_effect, read_tests, target, write, write_count, write_effect, write_tests}
use Rattle.guest_kernel.specs.Kernel.{KernelState, can_run, descriptor, with_descriptor}
use Rattle.guest_calls.specs.Lawful.{IsLawful, bytes_carried}
use Rattle.guest_kernel.specs.Copies.{read_event}
use Rattle.guest_calls.specs.Results.{Syscall, arg, number, readable, returns, sets, ◌▷◌}
use Rattle.guest_calls.proofs.Lawful.{AreFailed, AreFair, IsSteady, calm_lawful, carried_few, few_bytes, kept, lawful_by, lawful_changes, lawful_fills, lawful_unless, read_carries, read_fair, steady, write_carries}
use Rattle.guest_calls.proofs.Passed.{found_below, found_from}
use Rattle.guest_kernel.proofs.Reach.{readable_end}

-- a number stands for something else
sets_steady : (k : KernelState) (fd : ℕ) (d : Descriptor) → IsSteady k (with_descriptor k fd d)
sets_steady k fd d = record { threads = refl; last = refl; break_is = refl }

pub advanced_steady : (d : Descriptor) (fd n : ℕ) (k : KernelState) → IsSteady k (advanced d fd n k)
advanced_steady Closed fd n k = steady k
advanced_steady StandardInput fd n k = record { threads = refl; last = refl; break_is = refl }
advanced_steady (Output channel) fd n k = steady k
advanced_steady (InputFile input position) fd n k = record { threads = refl; last = refl; break_is = refl }

pub advanced_able : (d : Descriptor) (fd n : ℕ) (k : KernelState) (tid : ℕ) →
    can_run k tid ≡ true → can_run (advanced d fd n k) tid ≡ true
advanced_able Closed fd n k tid can = can
advanced_able _ fd n k tid can = can

path_fair : (c : Syscall) (path : ℕ) (o : Option ℕ) → o ≡ path_end c.memory path →
    option_map_or (λ at. not (can_read c.memory at 1)) o false ≡ false → is_none o ≡ false →
    AreFair c.tid 0 (read_event c.tid path (unwrap_or o path - path + 1))
path_fair c path None is reach some = absurd (cc)
path_fair c path (Some stop) is reach some =
    let from = found_from (ends_path c.memory) path 4096 stop (sym is) in
    let below = found_below (ends_path c.memory) path 4096 stop (sym is) in
    let end = readable_end c.memory stop 1 (not-false (can_read c.memory stop 1) reach) (omega arith) in
    read_fair c.tid 0 path (stop - path + 1) (omega (arith, below)) (omega (arith, below)) (λ one. omega (arith, from, end))

pub openat_is_lawful : (c : Syscall) → IsLawful c (openat c)
openat_is_lawful c =
    lawful_unless c (openat_tests c) (λ _. openat_effect c)
    (λ (all : AreFailed (openat_tests c)).
    let fd = unwrap_or (least_free c.kernel) 0 in
    let file = InputFile (unwrap_or (input_index c (arg c 1)) 0) 0 in
    lawful_by c (Back fd) (with_descriptor c.kernel fd file) (openat_effect c).guest tt
    (sets_steady c.kernel fd file) (λ goes can. can) (kept c _)
    (path_fair c (arg c 1) (path_end c.memory (arg c 1)) refl all.0 all.1.0))

pub close_is_lawful : (c : Syscall) → IsLawful c (close c)
close_is_lawful c =
    lawful_unless c (close_tests c) (λ _. returns c 0 ▷ sets (arg c 0) Closed)
    (λ all.
    lawful_changes c (with_descriptor c.kernel (arg c 0) Closed) 0 (sets_steady c.kernel (arg c 0) Closed) (λ can. can))

pub llseek_is_lawful : (c : Syscall) → IsLawful c (llseek c)
llseek_is_lawful c =
    lawful_unless c (llseek_tests c) (λ _. llseek_effect c)
    (λ (all : AreFailed (llseek_tests c)).
    let file = descriptor c.kernel (arg c 0) in
    let position = unsigned_abs (target c.kernel file (arg c 1) (arg c 2) (arg c 4)) in
    lawful_fills c (with_descriptor c.kernel (arg c 0) (with_position file position)) 0 (arg c 3) (to_le_bytes w64 position)
    (sets_steady c.kernel (arg c 0) (with_position file position)) (λ can. can)
    (few_bytes 8 (bytes_carried c (Back 0)) (omega arith)) all.1.1.1.1.0)

pub read_is_lawful : (c : Syscall) → number c ≡ 63 → IsLawful c (read c)
read_is_lawful c is =
    lawful_unless c (read_tests c) (λ _. read_effect c)
    (λ (all : AreFailed (read_tests c)).
    let file = descriptor c.kernel (arg c 0) in
    let n = length (read_bytes c) in
    lawful_fills c (advanced file (arg c 0) n c.kernel) n (arg c 1) (read_bytes c)
    (advanced_steady file (arg c 0) n c.kernel) (advanced_able file (arg c 0) n c.kernel c.tid) (carried_few c n (read_carries c is all)) all.1.0)

pub min_few : (n : ℕ) → min n 65536 ≤ 65536
min_few n = omega arith

pub write_is_lawful : (c : Syscall) → number c ≡ 64 → IsLawful c (write c)
write_is_lawful c is =
    lawful_unless c (write_tests c) (λ _. write_effect c)
    (λ (all : AreFailed (write_tests c)).
    let n = write_count c in
    calm_lawful c (write_effect c) (record {
      stays = tt;
      threads = refl;
      last = refl;
      able = λ can goes. can;
      held = λ q some. some;
      free = λ free. free;
      fair = read_fair c.tid (bytes_carried c (Back n)) (arg c 1) n (min_few (arg c 2)) (carried_few c n (write_carries c is all))
          (readable_end c.memory (arg c 1) n (not-false (readable c (arg c 1) n) all.1.0));
      silent = λ no_write no_writev. absurd (no_write is);
    }))
