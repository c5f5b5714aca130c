-- The calls on the guest's pages: brk(2), mmap(2), munmap(2), mprotect(2).
use Rattle.std.specs.Prelude.{ℕ, zero, suc, ◌+◌, ◌-◌, ◌*◌, ◌/◌, ◌%◌, ◌^◌, Bool, true, not, ◌&&◌, ◌||◌, ◌==◌, nat_le, nat_lt, is_some, is_none, unwrap_or, List, Option, Some, None}
use Rattle.guest_words.specs.declared.limits.TheConstants.{PAGES}
use Rattle.guest_words.specs.declared.rights.Rights.{Rights}
use Rattle.guest_memory.specs.Memory.{Memory, AreFree, mapped_pages, with_pages, with_rights}
use Rattle.guest_kernel.specs.Errors.{enomem, einval, enosys}
use Rattle.guest_calls.specs.Search.{first_passing}
use Rattle.guest_calls.specs.Results.{Syscall, SyscallResult, arg, returns, unless, ◌⇒◌, ◌or◌, ◌▷◌, changes, has}

-- how many pages the bytes fill, the last one perhaps in part
abbrev pub pages : ℕ → ℕ
pages n = (n + 4095) / 4096

-- PROT_READ 1, PROT_WRITE 2, PROT_EXEC 4; what can be written can be read
abbrev pub rights_of : ℕ → Rights
rights_of prot = record { read = has prot 1 || has prot 2; write = has prot 2; exec = has prot 4 }

-- the memory changes, without an event
abbrev pub remaps : (Memory → Memory) → SyscallResult → SyscallResult
remaps change r = record r { guest = record r.guest { memory = change r.guest.memory } }

abbrev pub maps : ℕ → ℕ → Rights → SyscallResult → SyscallResult
maps page count rights = remaps (λ m. with_pages m page count (Some rights))

abbrev pub unmaps : ℕ → ℕ → SyscallResult → SyscallResult
unmaps page count = remaps (λ m. with_pages m page count None)

-- ---- brk
-- the break cannot pass this
abbrev pub break_limit : ℕ
break_limit = 0x40000000

-- no page from the break, rounded up to a page, up to the limit is mapped
abbrev pub IsBreakFree : Memory → ℕ → Type 0
IsBreakFree m program_break = AreFree m (pages program_break) (pages break_limit - pages program_break)

abbrev pub brk_tests : Syscall → List (Bool × ℕ)
brk_tests c =
    let old = c.kernel.program_break in
    nat_lt (arg c 0) c.kernel.first_break ⇒ old
    or nat_lt break_limit (arg c 0) ⇒ old
    or nat_lt PAGES (mapped_pages c.memory + (pages (arg c 0) - pages old)) ⇒ old

-- the pages between the old and the new end are mapped, or unmapped
abbrev pub brk_effect : Syscall → SyscallResult
brk_effect c =
    let at = arg c 0 in
    let old = c.kernel.program_break in
    returns c at
    ▷ changes (λ k. record k { program_break = at })
    ▷ maps (pages old) (pages at - pages old) (rights_of 3)
    ▷ unmaps (pages at) (pages old - pages at)

abbrev pub brk : Syscall → SyscallResult
brk c = unless c (brk_tests c) λ _. brk_effect c

-- ---- munmap
abbrev pub munmap_tests : Syscall → List (Bool × ℕ)
munmap_tests c =
    not (arg c 0 % 4096 == 0) ⇒ einval
    or arg c 1 == 0 ⇒ einval
    or nat_lt (2 ^ 20) (arg c 0 / 4096 + pages (arg c 1)) ⇒ einval

abbrev pub munmap_effect : Syscall → SyscallResult
munmap_effect c = returns c 0 ▷ unmaps (arg c 0 / 4096) (pages (arg c 1))

abbrev pub munmap : Syscall → SyscallResult
munmap c = unless c (munmap_tests c) λ _. munmap_effect c

-- ---- mmap2
-- each of these pages is mapped
abbrev pub are_mapped : Memory → ℕ → ℕ → Bool
are_mapped m page zero = true
are_mapped m page (suc n) = is_some (m.rights page) && are_mapped m (page + 1) n

-- none of these pages is mapped
abbrev pub are_free : Memory → ℕ → ℕ → Bool
are_free m page zero = true
are_free m page (suc n) = is_none (m.rights page) && are_free m (page + 1) n

-- `count` pages from this one on are free and end at or below 0x7F000000
abbrev pub fits_at : Memory → ℕ → ℕ → Bool
fits_at m count page = nat_le (page + count) 0x7F000 && are_free m page count

-- the lowest page from 0x40000000 on at which `count` free pages stand
abbrev pub first_fit : Memory → ℕ → Option ℕ
first_fit m count = first_passing (fits_at m count) 0x40000 0x3F000

-- MAP_PRIVATE 2 among the four bits of the type, MAP_ANONYMOUS 0x20, MAP_FIXED 0x10 and MAP_FIXED_NOREPLACE 0x100000
abbrev pub mmap2_tests : Syscall → List (Bool × ℕ)
mmap2_tests c =
    let count = pages (arg c 1) in
    not (arg c 3 % 2 ^ 4 == 2) ⇒ enosys
    or not (has (arg c 3) 0x20) ⇒ enosys
    or has (arg c 3) 0x100010 ⇒ enosys
    or arg c 1 == 0 ⇒ einval
    or is_none (first_fit c.memory count) ⇒ enomem
    or nat_lt PAGES (mapped_pages c.memory + count) ⇒ enomem

abbrev pub mmap2_effect : Syscall → SyscallResult
mmap2_effect c =
    let count = pages (arg c 1) in
    let page = unwrap_or (first_fit c.memory count) 0 in
    returns c (page * 4096) ▷ maps page count (rights_of (arg c 2))

abbrev pub mmap2 : Syscall → SyscallResult
mmap2 c = unless c (mmap2_tests c) λ _. mmap2_effect c

-- ---- mprotect
abbrev pub mprotect_tests : Syscall → List (Bool × ℕ)
mprotect_tests c =
    not (arg c 0 % 4096 == 0) ⇒ einval
    or arg c 1 == 0 ⇒ 0
    or nat_lt (2 ^ 32) (arg c 0 + arg c 1) ⇒ enomem
    or not (are_mapped c.memory (arg c 0 / 4096) (pages (arg c 1))) ⇒ enomem

abbrev pub mprotect_effect : Syscall → SyscallResult
mprotect_effect c =
    returns c 0 ▷ remaps (λ m. with_rights m (arg c 0 / 4096) (pages (arg c 1)) (rights_of (arg c 2)))

abbrev pub mprotect : Syscall → SyscallResult
mprotect c = unless c (mprotect_tests c) λ _. mprotect_effect c
