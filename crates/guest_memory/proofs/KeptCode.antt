-- Instructions that are known: what changes of the memory leave of them.
use Rattle.std.proofs.Common.{◌≡◌, ℕ, zero, suc, ◌+◌, ◌-◌, ◌*◌, ◌<◌, ◌≤◌, ◌/◌, List, [], ◌∷◌, length, ap, ap₂, cond, sym, refl, ◌∙◌, arith, inl, inr, ◌⊎◌, Bool, Option, Some, None, Result, Ok, Err, true, false}
use Rattle.std.specs.Prelude.{slice_index, nat_lt}
use Rattle.std.specs.Option.{option_or}
use Rattle.std.proofs.lemmas.Bool.{cases_lt}
use Rattle.byteorder.specs.Endian.{little_number}
use Rattle.guest_words.specs.declared.rights.Rights.{Rights}
use Rattle.guest_memory.specs.declared.refusal.MemError.{MemError}
use Rattle.guest_memory.specs.declared.refusal.MemError.TheVariants as error
use Rattle.guest_memory.specs.declared.refusal.Permission.TheVariants as permission
use Rattle.guest_memory.specs.Memory.{Memory, AreFree, byte_refusal, bytes_at, first_refusal, is_among, loaded, number_at, page_refusal, unless_refused, with_bytes, with_pages, with_rights}
use Rattle.guest_memory.specs.Code.{IsInstructionAt}
use Rattle.guest_memory.specs.Private.HeldCode.{AgreeBut, instruction_of}
use Rattle.guest_memory.proofs.Accesses.{refusal_head}
use Rattle.guest_memory.proofs.PageChanges.{among_none}
use Rattle.guest_memory.proofs.WrittenBytes.{among_below, among_past}
use Rattle.rv_isa.specs.declared.instruction.Instr.{Instr}

-- the instruction of the word at an address, where it can be fetched
abbrev pub fetched : Memory → ℕ → Option Instr
fetched m at = instruction_of (loaded m permission.Execute at 4)

-- each instruction that is known is that of its word
abbrev pub Holds : (ℕ → Option Instr) → Memory → Type 0
Holds known m = (word : ℕ) (i : Instr) → known word ≡ Some i → fetched m (4 * word) ≡ Some i

some_of : {P : Type 0} (o : Option Instr) (i : Instr) → o ≡ None → o ≡ Some i → P
some_of o i none some = let bad : Some i ≡ None = sym some ∙ none in absurd (cc)

-- what is known is forgotten, or its word is fetched as before
pub holds_after : (old new : ℕ → Option Instr) (m n : Memory) → Holds old m
    → ((word : ℕ) → (new word ≡ None) ⊎ ((new word ≡ old word) × (loaded n permission.Execute (4 * word) 4 ≡ loaded m permission.Execute (4 * word) 4)))
    → Holds new n
holds_after old new m n holds each word i is = elim (each word) [
  | inl none ↦ some_of (new word) i none is
  | inr same ↦ ap instruction_of same.1 ∙ holds word i (sym same.0 ∙ is)
]

-- a word that can be fetched and stands for an instruction
instruction_from : (m : Memory) (at : ℕ) (i : Instr) (r : Result ℕ MemError) → loaded m permission.Execute at 4 ≡ r → instruction_of r ≡ Some i → IsInstructionAt m at i
instruction_from m at i (Ok word) loads stands = record { word = word; loads = loads; stands = stands }
instruction_from m at i (Err refusal) loads stands = absurd (cc)

pub is_instruction : (m : Memory) (at : ℕ) (i : Instr) → fetched m at ≡ Some i → IsInstructionAt m at i
is_instruction m at i is = instruction_from m at i (loaded m permission.Execute at 4) refl is

-- ---- memories that agree on some bytes and their pages
refusal_agrees : (m n : Memory) (count q : ℕ) → ((k : ℕ) → q ≤ k → k < q + count → n.rights (k / 4096) ≡ m.rights (k / 4096)) →
    first_refusal n permission.Execute q count ≡ first_refusal m permission.Execute q count
refusal_agrees m n zero q same = refl
refusal_agrees m n (suc count) q same =
    ap₂ option_or
    (ap (λ (r : Option Rights). page_refusal permission.Execute (cond (nat_lt (q / 4096) 1048576) r None)) (same q (omega arith) (omega arith)))
    (refusal_agrees m n count (q + 1) (λ k low high. same k (omega (arith, low)) (omega (arith, high))))

bytes_agree : (m n : Memory) (count q : ℕ) → ((k : ℕ) → q ≤ k → k < q + count → n.byte k ≡ m.byte k) → bytes_at n q count ≡ bytes_at m q count
bytes_agree m n zero q same = refl
bytes_agree m n (suc count) q same =
    ap₂ (λ (b : ℕ) (bs : List ℕ). b ∷ bs) (same q (omega arith) (omega arith))
    (bytes_agree m n count (q + 1) (λ k low high. same k (omega (arith, low)) (omega (arith, high))))

loads_agree : (m n : Memory) (q : ℕ) → ((k : ℕ) → q ≤ k → k < q + 4 → n.rights (k / 4096) ≡ m.rights (k / 4096)) →
    ((k : ℕ) → q ≤ k → k < q + 4 → n.byte k ≡ m.byte k) → loaded n permission.Execute q 4 ≡ loaded m permission.Execute q 4
loads_agree m n q rights bytes =
    ap₂ (λ (o : Option MemError) (number : ℕ). unless_refused o number) (refusal_agrees m n 4 q rights) (ap (little_number 4) (bytes_agree m n 4 q bytes))

-- bytes that are written are none of the word's
pub loads_stay : (m : Memory) (at : ℕ) (bytes : List ℕ) (word : ℕ) → (4 * word + 4 ≤ at) ⊎ (at + length bytes ≤ 4 * word) →
    loaded (with_bytes m at bytes) permission.Execute (4 * word) 4 ≡ loaded m permission.Execute (4 * word) 4
loads_stay m at bytes word apart = loads_agree m (with_bytes m at bytes) (4 * word) (λ k low high. refl) (λ k low high. elim apart [
  | inl before ↦ ap (λ b. cond b (slice_index bytes (k - at)) (m.byte k)) (among_below at (length bytes) k (omega (arith, before, high)))
  | inr behind ↦ ap (λ b. cond b (slice_index bytes (k - at)) (m.byte k)) (among_past at (length bytes) k (omega (arith, behind, low)))
])

-- no byte is written
pub holds_unwritten : (known : ℕ → Option Instr) (m : Memory) (at : ℕ) → Holds known m → Holds known (with_bytes m at [])
holds_unwritten known m at holds word i is =
    ap instruction_of (loads_agree m (with_bytes m at []) (4 * word) (λ k low high. refl) (λ k low high. ap (λ b. cond b (slice_index [] (k - at)) (m.byte k)) (among_none at k)))
    ∙ holds word i is

-- a page of its own is none of those that may differ
pub loads_but : (first count : ℕ) (m n : Memory) (word : ℕ) → AgreeBut first count m n → is_among first count (word / 1024) ≡ false →
    loaded n permission.Execute (4 * word) 4 ≡ loaded m permission.Execute (4 * word) 4
loads_but first count m n word agree outside = loads_agree m n (4 * word)
    (λ k low high. agree.rights (k / 4096) (ap (is_among first count) (page_of_byte k word low high) ∙ outside))
    (λ k low high. agree.bytes k (ap (is_among first count) (page_of_byte k word low high) ∙ outside)) where
      page_of_byte : (k word : ℕ) → 4 * word ≤ k → k < 4 * word + 4 → k / 4096 ≡ word / 1024
      page_of_byte k word low high = omega (arith, low, high)

pub agree_rights : (m : Memory) (first count : ℕ) (rights : Rights) → AgreeBut first count m (with_rights m first count rights)
agree_rights m first count rights = record {
  rights = λ page outside. ap (λ b. cond b (Some rights) (m.rights page)) outside;
  bytes = λ at outside. refl;
}

pub agree_pages : (m : Memory) (first count : ℕ) (rights : Option Rights) → AgreeBut first count m (with_pages m first count rights)
agree_pages m first count rights = record {
  rights = λ page outside. ap (λ b. cond b rights (m.rights page)) outside;
  bytes = λ at outside. ap (λ b. cond b 0 (m.byte at)) outside;
}

-- ---- free pages are mapped: none of their words is known
within_none : {T : Type 0} (test : Bool) (o : Option T) → o ≡ None → cond test o None ≡ None
within_none true o none = none
within_none false o none = refl

nothing_fetched : (m : Memory) (word : ℕ) → m.rights (word / 1024) ≡ None → fetched m (4 * word) ≡ None
nothing_fetched m word free =
    let page : 4 * word / 4096 ≡ word / 1024 = omega arith in
    let refused : byte_refusal m permission.Execute (4 * word) ≡ Some error.Unmapped =
    ap (page_refusal permission.Execute) (within_none (nat_lt (4 * word / 4096) 1048576) (m.rights (4 * word / 4096)) (ap m.rights page ∙ free)) in
    ap (λ (o : Option MemError). instruction_of (unless_refused o (number_at m (4 * word) 4))) (refusal_head m permission.Execute (4 * word) 4 error.Unmapped refused (omega arith))

among_cases : (first count n : ℕ) → ((first ≤ n) × (n < first + count)) ⊎ (is_among first count n ≡ false)
among_cases first count n = elim (cases_lt n first) [
  | inl low ↦ inr (among_below first count n low)
  | inr from ↦ elim (cases_lt n (first + count)) [ inl high ↦ inl (from, high) | inr past ↦ inr (among_past first count n past) ]
]

pub holds_mapped : (known : ℕ → Option Instr) (m : Memory) (first count : ℕ) (rights : Option Rights) → AreFree m first count → Holds known m →
    Holds known (with_pages m first count rights)
holds_mapped known m first count rights free holds word i is = elim (among_cases first count (word / 1024)) [
  | inl inside ↦ some_of (fetched m (4 * word)) i (nothing_fetched m word (free (word / 1024) inside.0 inside.1)) (holds word i is)
  | inr outside ↦ ap instruction_of (loads_but first count m (with_pages m first count rights) word (agree_pages m first count rights) outside) ∙ holds word i is
]

-- the words of so many pages are forgotten, and these pages may be any
pub holds_but : (old new : ℕ → Option Instr) (first count : ℕ) (m n : Memory) → AgreeBut first count m n →
    ((word : ℕ) → first ≤ word / 1024 → word / 1024 < first + count → new word ≡ None) →
    ((word : ℕ) → (word / 1024 < first) ⊎ (first + count ≤ word / 1024) → new word ≡ old word) → Holds old m → Holds new n
holds_but old new first count m n agree gone rest holds = holds_after old new m n holds (λ word. elim (cases_lt (word / 1024) first) [
  | inl low ↦ inr (rest word (inl low), loads_but first count m n word agree (among_below first count (word / 1024) low))
  | inr from ↦ elim (cases_lt (word / 1024) (first + count)) [
    | inl high ↦ inl (gone word from high)
    | inr past ↦ inr (rest word (inr past), loads_but first count m n word agree (among_past first count (word / 1024) past))
  ]
])
