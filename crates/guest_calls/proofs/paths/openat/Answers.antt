use Rattle.std.proofs.Common.{◌≡◌, ℕ, ◌+◌, ◌-◌, true, sym, ap, ◌∙◌, arith}
use Rattle.guest_memory.specs.Guest.{memory_of}
use Rattle.rv_exec.specs.Accesses.{can_read}
use Rattle.guest_calls.proofs.PathEnds.{read_through}
use Rattle.guest_calls.proofs.paths.openat.Goals as goal

pub note_read-requires-clause-reach : goal.note_read-requires-clause-reach
note_read-requires-clause-reach c =
    let m = memory_of c.args.memory.now in
    let from = c.from.ensures in
    let low = c.in-Some.ensures.range.0 in
    let size : c.in-Some.stop - c.argument-path.result ≡ c.in-Some.stop - c.from.result = omega (arith, from) in
    let end : c.in-Some.stop ≡ c.argument-path.result + (c.in-Some.stop - c.from.result) = omega (arith, from, low) in
    let before : can_read m c.argument-path.result (c.in-Some.stop - c.from.result) ≡ true = ap (λ (n : ℕ). can_read m c.argument-path.result n) (sym size) ∙ c.in-Some.ensures.reach in
    let last : can_read m (c.argument-path.result + (c.in-Some.stop - c.from.result)) 1 ≡ true = ap (λ (at : ℕ). can_read m at 1) (sym end) ∙ sym c.is_readable.ensures ∙ c.if-not-is_readable.false in
    read_through m c.argument-path.result (c.in-Some.stop - c.from.result) before last
