-- A call goes by its number to its row of the table.
use Rattle.std.proofs.Common.{◌≡◌, ◌≢◌, ℕ, Bool, cond, List, [], ◌∷◌, refl, ap, sym, ◌∙◌}
use Rattle.std.proofs.lemmas.Bool.{ne_eqb}
use Rattle.guest_kernel.specs.Errors.{enosys}
use Rattle.guest_calls.specs.Results.{Syscall, SyscallResult, number, returns}
use Rattle.guest_calls.specs.Table.{always, syscall, syscall_numbered, table}

pub called : (c : Syscall) (n : ℕ) → number c ≡ n → syscall c ≡ syscall_numbered n table c
unfolding syscall
called c n is = ap (λ m. syscall_numbered m table c) is

-- the number is that of no row
abbrev pub AreOther : ℕ → List (ℕ × (Syscall → SyscallResult)) → Type 0
AreOther n [] = Unit {0}
AreOther n (row ∷ rows) = (n ≢ row.0) × AreOther n rows

passed_over : (n : ℕ) (rows : List (ℕ × (Syscall → SyscallResult))) → AreOther n rows → syscall_numbered n rows ≡ always enosys
passed_over n [] others = refl
passed_over n (row ∷ rows) others =
    ap (λ (b : Bool). cond b row.1 (syscall_numbered n rows)) (ne_eqb row.0 n (λ e. others.0 (sym e))) ∙ passed_over n rows others.1

pub unknown : (c : Syscall) (n : ℕ) → number c ≡ n → AreOther n table → syscall c ≡ returns c enosys
unknown c n is others = called c n is ∙ ap (λ (what : Syscall → SyscallResult). what c) (passed_over n table others)
