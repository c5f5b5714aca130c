use Rattle.std.proofs.Common.{◌≡◌, ◌≢◌, ◌∙◌, ◌<◌, ◌≤◌, ◌+◌, ℕ, Option, None, true, false, ap, sym, arith, inl, inr}
use Rattle.std.specs.Option.{is_some}
use Rattle.std.proofs.lemmas.Bool.{cases_eq, cases_lt}
use Rattle.guest_words.specs.declared.rights.Rights.{Rights}
use Rattle.guest_memory.specs.Memory.{Memory, IsFreeRange}
use Rattle.guest_memory.specs.State.{memory_in}
use Rattle.guest_memory.specs.Guest.{memory_of}
use Rattle.guest_memory.proofs.Accesses.{none_of}
use Rattle.guest_memory.proofs.memory.GuestMemory.find_free.Goals as goal
use Rattle.guest_memory.proofs.memory.GuestMemory.find_free.Goals.{then-is_page_mapped, else-is_page_mapped}

-- a free range has no mapped page
not_over : (m : Memory) (count q n : ℕ) → is_some (m.rights n) ≡ true → q ≤ n → n < q + count → ¬ IsFreeRange m count q
not_over m count q n mapped low high = λ r.
    let none : m.rights n ≡ None = r.free n low high in
    let bad : false ≡ true = sym (ap (λ (o : Option Rights). is_some o) none) ∙ mapped in
    absurd (cc)

-- the free pages, with one more
free_more : (m : Memory) (start next : ℕ) → ((q : ℕ) → start ≤ q → q < next → m.rights q ≡ None) → is_some (m.rights next) ≡ false → (q : ℕ) → start ≤ q → q < next + 1 → m.rights q ≡ None
free_more m start next free unmapped q low high = elim (cases_eq q next) [
  | inl same ↦ ap m.rights same ∙ none_of (m.rights next) unmapped
  | inr differs ↦ free q low (omega arith)
]

-- no range below starts before a mapped page
lower_more : (m : Memory) (count start next : ℕ) → ((q : ℕ) → q < start → ¬ IsFreeRange m count q) → is_some (m.rights next) ≡ true → next < start + count → (q : ℕ) → q < next + 1 → ¬ IsFreeRange m count q
lower_more m count start next lower mapped near q low = elim (cases_lt q start) [
  | inl below ↦ lower q below
  | inr from ↦ not_over m count q next mapped (omega arith) (omega arith)
]

pub pages-preserved : goal.pages-preserved
unfolding memory_of
pages-preserved c =
    let m = memory_in c.args.self.now.directory in
    let differs : c.pages.next ≢ c.pages.start + c.args.count = c.if-next-start.false in
    let test : c.pages.start + c.args.count ≤ 0x7F000 = c.pages-test.true in
    elim c.if-is_page_mapped.branch [
      | then-is_page_mapped w ↦
          let mapped : is_some (m.rights c.pages.next) ≡ true = sym c.is_page_mapped.ensures ∙ w.if-is_page_mapped.true in
          let start : c.pages.next + 1 ≡ c.if-is_page_mapped.start = sym w.start-is in
          record {
            first = omega arith;
            order = omega arith;
            few = omega arith;
            last = omega arith;
            free = λ q low high. absurd (omega arith);
            lower = λ q low. lower_more m c.args.count c.pages.start c.pages.next c.pages.invariant.lower mapped (omega arith) q (omega arith);
          }
      | else-is_page_mapped w ↦
          let unmapped : is_some (m.rights c.pages.next) ≡ false = sym c.is_page_mapped.ensures ∙ w.if-is_page_mapped.false in
          let start : c.if-is_page_mapped.start ≡ c.pages.start = w.start-is in
          record {
            first = omega arith;
            order = omega arith;
            few = omega arith;
            last = omega arith;
            free = λ q low high. free_more m c.pages.start c.pages.next c.pages.invariant.free unmapped q (omega arith) high;
            lower = λ q low. c.pages.invariant.lower q (omega arith);
          }
    ]

pub returns-clause-none : goal.returns-clause-none
unfolding memory_of
returns-clause-none c = λ q r. elim (cases_lt q c.pages.start) [
  | inl below ↦ c.pages.invariant.lower q below r
  | inr from ↦ let last = r.last in let past : 0x7F000 < c.pages.start + c.args.count = c.pages-test.false in absurd (omega arith)
]
