-- The calls on the clock are lawful.
use Rattle.std.proofs.Common.{arith, refl}
use Rattle.std.specs.Prelude.{nat_le}
use Rattle.std.proofs.lemmas.Bool.{not-false}
use Rattle.guest_kernel.specs.declared.answer.Answer.TheVariants.{Back, Block}
use Rattle.guest_kernel.specs.Waits.{with_deadline}
use Rattle.guest_calls.specs.Clock.{clock_gettime, clock_gettime_effect, clock_gettime_tests, clock_nanosleep, clock_nanosleep_effect, clock_nanosleep_tests, nanosleep_end, sleeps, time_bytes, time_size}
use Rattle.guest_calls.specs.Lawful.{IsLawful, bytes_carried}
use Rattle.guest_calls.specs.Results.{Syscall, arg, readable, reads, returns, ◌▷◌}
use Rattle.guest_calls.proofs.Lawful.{AreFailed, few_bytes, kept, lawful_by, lawful_either, lawful_fills, lawful_unless, read_fair, steady}
use Rattle.guest_kernel.proofs.Reach.{readable_end}

pub clock_gettime_is_lawful : (c : Syscall) → IsLawful c (clock_gettime c)
clock_gettime_is_lawful c =
    lawful_unless c (clock_gettime_tests c) (λ _. clock_gettime_effect c)
    (λ (all : AreFailed (clock_gettime_tests c)).
    lawful_fills c c.kernel 0 (arg c 1) (time_bytes c.kernel.time) (steady c.kernel) (λ can. can)
    (few_bytes time_size (bytes_carried c (Back 0)) (omega arith)) all.1.0)

pub clock_nanosleep_is_lawful : (c : Syscall) → IsLawful c (clock_nanosleep c)
clock_nanosleep_is_lawful c =
    lawful_unless c (clock_nanosleep_tests c) (λ _. clock_nanosleep_effect c)
    (λ (all : AreFailed (clock_nanosleep_tests c)).
    let end = nanosleep_end c in
    let read = returns c 0 ▷ reads c.tid (arg c 2) time_size in
    let fair =
    read_fair c.tid 0 (arg c 2) time_size (omega arith) (omega arith)
    (readable_end c.memory (arg c 2) time_size (not-false (readable c (arg c 2) time_size) all.1.0)) in
    lawful_either c (nat_le end c.kernel.time) (λ r. r) (sleeps c end) read
    (lawful_by c (Back 0) c.kernel read.guest tt (steady c.kernel) (λ goes can. can) (kept c _) fair)
    (lawful_by c Block (with_deadline c.tid end 0 c.kernel) read.guest tt
    (record { threads = refl; last = refl; break_is = refl }) (λ goes. absurd (cc)) (kept c _) fair))
