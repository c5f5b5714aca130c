-- Where a path ends.
use Rattle.std.proofs.Common.{◌≡◌, ℕ, zero, suc, ◌<◌, ◌≤◌, ◌+◌, Bool, true, false, List, [], ◌∷◌, ◌++◌, length, take, Option, Some, None, arith, refl, ap, sym, ◌∙◌}
use Rattle.std.specs.Prelude.{not, ◌||◌, ◌==◌, is_none}
use Rattle.std.specs.Option.{option_or}
use Rattle.guest_memory.specs.declared.refusal.MemError.{MemError}
use Rattle.guest_memory.specs.declared.refusal.Permission.TheVariants as permission
use Rattle.guest_memory.specs.Memory.{Memory, byte_refusal, bytes_at, first_refusal}
use Rattle.guest_memory.proofs.Accesses.{refusal_each, refusal_skip}
use Rattle.guest_memory.proofs.ReadBytes.{length-bytes_at}
use Rattle.rv_exec.specs.Accesses.{can_read}
use Rattle.guest_calls.specs.Files.{ends_path, path_end}
use Rattle.guest_calls.proofs.Fits.{found_first, found_none}

take_front : (xs ys : List ℕ) (n : ℕ) → length xs ≡ n → take n (xs ++ ys) ≡ xs
take_front [] ys zero e = refl
take_front [] ys (suc n) e = absurd (omega (arith, e))
take_front (x ∷ xs) ys zero e = absurd (omega (arith, e))
take_front (x ∷ xs) ys (suc n) e = ap (λ (zs : List ℕ). x ∷ zs) (take_front xs ys n (omega (arith, e)))

-- bytes that were copied to the front of others
pub take_copied : (m : Memory) (at n : ℕ) (rest : List ℕ) → take n (bytes_at m at n ++ rest) ≡ bytes_at m at n
take_copied m at n rest = take_front (bytes_at m at n) rest n (length-bytes_at m at n)

read_where_none : (reads zero_byte : Bool) → (not reads || zero_byte) ≡ false → reads ≡ true
read_where_none true zero_byte h = refl
read_where_none false zero_byte h = absurd (cc)

byte_none : (o : Option MemError) → is_none (option_or o None) ≡ true → o ≡ None
byte_none None h = refl
byte_none (Some e) h = absurd (cc)

byte_reads : (m : Memory) (q : ℕ) → ends_path m q ≡ false → byte_refusal m permission.Read q ≡ None
byte_reads m q h = byte_none (byte_refusal m permission.Read q) (read_where_none (can_read m q 1) (m.byte q == 0) h)

-- what stands before the end can be read
pub path_reads : (m : Memory) (path n : ℕ) → ((q : ℕ) → path ≤ q → q < path + n → ends_path m q ≡ false) → can_read m path n ≡ true
path_reads m path n before =
    let e : n + 0 ≡ n = omega arith in
    let none : first_refusal m permission.Read path n ≡ None =
    ap (λ (k : ℕ). first_refusal m permission.Read path k) (sym e)
    ∙ refusal_skip m permission.Read path n 0 (λ k lt. byte_reads m (path + k) (before (path + k) (omega arith) (omega (arith, lt))))
    in
    ap (λ (o : Option MemError). is_none o) none

pub path_ends : (m : Memory) (path stop : ℕ) → path ≤ stop → stop < path + 4096 → ends_path m stop ≡ true → ((q : ℕ) → path ≤ q → q < stop → ends_path m q ≡ false) → path_end m path ≡ Some stop
path_ends m path stop low high ends before = found_first (ends_path m) path 4096 stop low high ends before

pub path_does_not_end : (m : Memory) (path : ℕ) → ((q : ℕ) → path ≤ q → q < path + 4096 → ends_path m q ≡ false) → path_end m path ≡ None
path_does_not_end m path none = found_none (ends_path m) path 4096 none

none_from : (o : Option MemError) → is_none o ≡ true → o ≡ None
none_from None h = refl
none_from (Some e) h = absurd (cc)

-- one more byte
pub read_through : (m : Memory) (at n : ℕ) → can_read m at n ≡ true → can_read m (at + n) 1 ≡ true → can_read m at (n + 1) ≡ true
read_through m at n before last =
    ap (λ (o : Option MemError). is_none o) (refusal_skip m permission.Read at n 1 (refusal_each m permission.Read at n (none_from (first_refusal m permission.Read at n) before))) ∙ last
