-- The end of a thread is told.
use Rattle.std.proofs.Common.{◌≡◌, ℕ, Bool, true, false, ap, ap₂, sym, ◌∙◌}
use Rattle.std.specs.Prelude.{not, ◌&&◌, ◌==◌}
use Rattle.std.proofs.lemmas.Bool.{ne_eqb}
use Rattle.futex_table.specs.Waiting.{all_bits}
use Rattle.guest_calls.specs.Futex.{wakes}
use Rattle.guest_kernel.specs.Kernel.{has_others}
use Rattle.guest_calls.specs.Results.{Syscall, returns, writable, fills_word, when, ◌▷◌}
use Rattle.guest_calls.specs.Threads.{clear_tid, told_end}

-- where an end is told, it is told so
pub told_where_cleared : (c : Syscall) (at : ℕ) → at ≡ clear_tid c → has_others c.kernel c.tid ≡ true → (at ≡ 0 → ⊥) → writable c at 4 ≡ true → told_end c ≡ (returns c 0 ▷ fills_word at 0 ▷ wakes at 1 all_bits)
told_where_cleared c at is others some reach =
    let set : (at == 0) ≡ false = ne_eqb at 0 some in
    let cleared : (has_others c.kernel c.tid && (not (at == 0) && writable c at 4)) ≡ true = ap₂ (λ (a b : Bool). a && b) others (ap₂ (λ (a b : Bool). not a && b) set reach) in
    ap (λ (n : ℕ). when (has_others c.kernel c.tid && (not (n == 0) && writable c n 4)) (λ r. r ▷ fills_word n 0 ▷ wakes n 1 all_bits) (returns c 0)) (sym is)
    ∙ ap (λ (b : Bool). when b (λ r. r ▷ fills_word at 0 ▷ wakes at 1 all_bits) (returns c 0)) cleared
