-- The calls on pages are lawful: the pages behind the break stay free.
use Rattle.std.proofs.Common.{◌≡◌, ℕ, ◌<◌, ◌≤◌, ◌+◌, ◌-◌, ◌*◌, ◌/◌, Bool, true, false, cond, Option, Some, None, arith, refl, ap, sym, ◌∙◌, inl, inr}
use Rattle.std.specs.Prelude.{nat_le, nat_lt, is_some, is_none, unwrap_or}
use Rattle.std.proofs.lemmas.Bool.{and_parts, cases_lt, not-false}
use Rattle.std.proofs.lemmas.Bool.Decides.{nat_tests}
use Rattle.guest_words.specs.declared.rights.Rights.{Rights}
use Rattle.guest_memory.specs.Memory.{Memory, is_among, with_pages, with_rights}
use Rattle.guest_memory.proofs.WrittenBytes.{among_below, among_past, among_yes}
use Rattle.guest_calls.specs.Lawful.{IsLawful}
use Rattle.guest_calls.specs.Pages.{IsBreakFree, are_mapped, brk, brk_effect, brk_tests, first_fit, fits_at, mmap2, mmap2_effect, mmap2_tests, mprotect, mprotect_effect, mprotect_tests, munmap, munmap_effect, munmap_tests, pages, rights_of}
use Rattle.guest_calls.specs.Results.{Syscall, arg}
use Rattle.guest_calls.proofs.Fits.{mapped_each}
use Rattle.guest_calls.proofs.Lawful.{AreFailed, lawful_remaps, lawful_unless}
use Rattle.guest_calls.proofs.Passed.{found_from}

free_cond : (b : Bool) (o : Option Rights) → o ≡ None → cond b None o ≡ None
free_cond true o none = refl
free_cond false o none = none

unmapped_free : (m : Memory) (page count b : ℕ) → IsBreakFree m b → IsBreakFree (with_pages m page count None) b
unmapped_free m page count b free q low high = free_cond (is_among page count q) (m.rights q) (free q low high)

some_not_none : {T : Type 0} (o : Option T) → o ≡ None → is_some o ≡ true → ⊥
some_not_none None none some = cc
some_not_none (Some x) none some = cc

rights_cond : (b : Bool) (r : Rights) (o : Option Rights) → o ≡ None → (b ≡ true → is_some o ≡ true) → cond b (Some r) o ≡ None
rights_cond true r o none mapped = absurd (some_not_none o none (mapped refl))
rights_cond false r o none mapped = none

among_low : (first count q : ℕ) → is_among first count q ≡ true → first ≤ q
among_low first count q h =
    let e = (and_parts (nat_le first q) (nat_lt q (first + count)) h).0 in grind (arith, nat_tests, e)

among_high : (first count q : ℕ) → is_among first count q ≡ true → q < first + count
among_high first count q h =
    let e = (and_parts (nat_le first q) (nat_lt q (first + count)) h).1 in grind (arith, nat_tests, e)

protected_free : (m : Memory) (page count : ℕ) (r : Rights) (b : ℕ) → are_mapped m page count ≡ true →
    IsBreakFree m b → IsBreakFree (with_rights m page count r) b
protected_free m page count r b mapped free q low high =
    rights_cond (is_among page count q) r (m.rights q) (free q low high)
    (λ inside. mapped_each m page count mapped q (among_low page count q inside) (among_high page count q inside))

-- pages that are mapped elsewhere
mapped_high : (m : Memory) (page count : ℕ) (o : Option Rights) (b : ℕ) → 0x40000 ≤ page →
    IsBreakFree m b → IsBreakFree (with_pages m page count o) b
mapped_high m page count o b above free q low high =
    let below : q < page = omega (arith, above, low, high) in
    ap (λ (inside : Bool). cond inside o (m.rights q)) (among_below page count q below) ∙ free q low high

fit_high : (o : Option ℕ) (m : Memory) (count : ℕ) → o ≡ first_fit m count → is_none o ≡ false → 0x40000 ≤ unwrap_or o 0
fit_high None m count is some = absurd (cc)
fit_high (Some page) m count is some = found_from (fits_at m count) 0x40000 0x3F000 page (sym is)

-- the pages behind a new break
grown_free : (m : Memory) (old at : ℕ) (r : Rights) → IsBreakFree m old →
    IsBreakFree (with_pages (with_pages m (pages old) (pages at - pages old) (Some r)) (pages at) (pages old - pages at) None) at
grown_free m old at r free q low high = elim (cases_lt q (pages old)) [
  | inl below ↦
      let inside : is_among (pages at) (pages old - pages at) q ≡ true =
      among_yes (pages at) (pages old - pages at) q low (omega (arith, below, low)) in
      ap (λ (b : Bool). cond b None (cond (is_among (pages old) (pages at - pages old) q) (Some r) (m.rights q))) inside
  | inr above ↦
      let outside : is_among (pages old) (pages at - pages old) q ≡ false =
      among_past (pages old) (pages at - pages old) q (omega (arith, above, low)) in
      free_cond (is_among (pages at) (pages old - pages at) q) _
      (ap (λ (b : Bool). cond b (Some r) (m.rights q)) outside ∙ free q above (omega (arith, above, high)))
]

pub brk_is_lawful : (c : Syscall) → IsLawful c (brk c)
brk_is_lawful c =
    lawful_unless c (brk_tests c) (λ _. brk_effect c)
    (λ all. lawful_remaps c (arg c 0) (arg c 0) (brk_effect c).guest.memory
    (grown_free c.memory c.kernel.program_break (arg c 0) (rights_of 3)))

pub munmap_is_lawful : (c : Syscall) → IsLawful c (munmap c)
munmap_is_lawful c =
    lawful_unless c (munmap_tests c) (λ _. munmap_effect c)
    (λ all. lawful_remaps c 0 c.kernel.program_break (munmap_effect c).guest.memory
    (unmapped_free c.memory (arg c 0 / 4096) (pages (arg c 1)) c.kernel.program_break))

pub mmap2_is_lawful : (c : Syscall) → IsLawful c (mmap2 c)
mmap2_is_lawful c =
    lawful_unless c (mmap2_tests c) (λ _. mmap2_effect c)
    (λ (all : AreFailed (mmap2_tests c)).
    let count = pages (arg c 1) in
    let first = first_fit c.memory count in
    lawful_remaps c (unwrap_or first 0 * 4096) c.kernel.program_break (mmap2_effect c).guest.memory
    (mapped_high c.memory (unwrap_or first 0) count (Some (rights_of (arg c 2))) c.kernel.program_break
    (fit_high first c.memory count refl all.1.1.1.1.0)))

pub mprotect_is_lawful : (c : Syscall) → IsLawful c (mprotect c)
mprotect_is_lawful c =
    lawful_unless c (mprotect_tests c) (λ _. mprotect_effect c)
    (λ (all : AreFailed (mprotect_tests c)).
    let page = arg c 0 / 4096 in
    let count = pages (arg c 1) in
    lawful_remaps c 0 c.kernel.program_break (mprotect_effect c).guest.memory
    (protected_free c.memory page count (rights_of (arg c 2)) c.kernel.program_break
    (not-false (are_mapped c.memory page count) all.1.1.1.0)))
