-- Ranges of pages, tested and stated.
use Rattle.std.proofs.Common.{◌≡◌, ◌↔◌, ℕ, zero, suc, ◌<◌, ◌≤◌, ◌+◌, Bool, true, false, cond, Option, Some, None, arith, refl, ap, ap₂, sym, subst, ◌∙◌, inl, inr}
use Rattle.std.specs.Prelude.{IsTrue, ◌&&◌, nat_le, is_none, is_some, IfSome, IfNone}
use Rattle.std.proofs.lemmas.Bool.{and_parts, cases_eq, false_from_ne_true}
use Rattle.std.proofs.lemmas.Bool.Decides.{nat_tests}
use Rattle.guest_words.specs.declared.rights.Rights.{Rights}
use Rattle.guest_memory.specs.Memory.{Memory, AreFree, ArePagesMapped, IsFreeRange}
use Rattle.guest_calls.specs.Pages.{are_mapped, are_free, fits_at, first_fit}
use Rattle.guest_calls.specs.Search.{first_passing}
use Rattle.guest_memory.proofs.HeldWords.{none_from}

same_tests : (a b : Bool) → (a ≡ true → b ≡ true) → (b ≡ true → a ≡ true) → a ≡ b
same_tests true b there back = sym (there refl)
same_tests false b there back = sym (false_from_ne_true b (λ h. let e : false ≡ true = back h in absurd (cc)))

-- ---- mapped pages
first_of : (P : ℕ → Type 0) (page count : ℕ) → ((q : ℕ) → page ≤ q → q < page + suc count → P q) → P page
first_of P page count each = each page (omega arith) (omega arith)

rest_of : (P : ℕ → Type 0) (page count : ℕ) → ((q : ℕ) → page ≤ q → q < page + suc count → P q) → (q : ℕ) → page + 1 ≤ q → q < page + 1 + count → P q
rest_of P page count each q low high = each q (omega (arith, low)) (omega (arith, high))

each_of : (P : ℕ → Type 0) (page count : ℕ) → P page → ((q : ℕ) → page + 1 ≤ q → q < page + 1 + count → P q) → (q : ℕ) → page ≤ q → q < page + suc count → P q
each_of P page count first rest q low high = elim (cases_eq q page) [
  | inl same ↦ subst P (sym same) first
  | inr differs ↦ rest q (grind (arith, low, differs)) (omega (arith, high))
]

pub mapped_each : (m : Memory) (page count : ℕ) → are_mapped m page count ≡ true → ArePagesMapped m page count
mapped_each m page zero h = λ q low high. absurd (omega (arith, low, high))
mapped_each m page (suc count) h =
    let parts = and_parts (is_some (m.rights page)) (are_mapped m (page + 1) count) h in
    each_of (λ q. is_some (m.rights q) ≡ true) page count parts.0 (mapped_each m (page + 1) count parts.1)

mapped_all : (m : Memory) (page count : ℕ) → ArePagesMapped m page count → are_mapped m page count ≡ true
mapped_all m page zero each = refl
mapped_all m page (suc count) each =
    let P : ℕ → Type 0 = λ q. is_some (m.rights q) ≡ true in
    ap₂ (λ (a b : Bool). a && b) (first_of P page count each) (mapped_all m (page + 1) count (rest_of P page count each))

-- a test of mapped pages is the definition's
pub mapped_test : (m : Memory) (page count : ℕ) (b : Bool) → IsTrue b ↔ ArePagesMapped m page count → b ≡ are_mapped m page count
mapped_test m page count b says = same_tests b (are_mapped m page count) (λ h. mapped_all m page count (says.0 h)) (λ h. says.1 (mapped_each m page count h))

free_each : (m : Memory) (page count : ℕ) → are_free m page count ≡ true → AreFree m page count
free_each m page zero h = λ q low high. absurd (omega (arith, low, high))
free_each m page (suc count) h =
    let parts = and_parts (is_none (m.rights page)) (are_free m (page + 1) count) h in
    each_of (λ q. m.rights q ≡ None) page count (none_from (m.rights page) parts.0) (free_each m (page + 1) count parts.1)

free_all : (m : Memory) (page count : ℕ) → AreFree m page count → are_free m page count ≡ true
free_all m page zero each = refl
free_all m page (suc count) each =
    let P : ℕ → Type 0 = λ q. m.rights q ≡ None in
    ap₂ (λ (a b : Bool). a && b) (ap (λ (o : Option Rights). is_none o) (first_of P page count each)) (free_all m (page + 1) count (rest_of P page count each))

-- a free range fits
fitting : (m : Memory) (count page : ℕ) → IsFreeRange m count page → fits_at m count page ≡ true
fitting m count page range =
    let end : nat_le (page + count) 0x7F000 ≡ true = let last = range.last in grind (arith, nat_tests, last) in
    ap₂ (λ (a b : Bool). a && b) end (free_all m page count range.free)

range_of : (m : Memory) (count page : ℕ) → 0x40000 ≤ page → fits_at m count page ≡ true → IsFreeRange m count page
range_of m count page low h =
    let parts = and_parts (nat_le (page + count) 0x7F000) (are_free m page count) h in
    let end : page + count ≤ 0x7F000 = let e = parts.0 in grind (arith, nat_tests, e) in
    record { first = low; last = end; free = free_each m page count parts.1 }

-- ---- the first number that passes
pub found_first : (test : ℕ → Bool) (from n s : ℕ) → from ≤ s → s < from + n → test s ≡ true → ((q : ℕ) → from ≤ q → q < s → test q ≡ false) → first_passing test from n ≡ Some s
unfolding first_passing
found_first test from zero s low high passes before = absurd (omega (arith, low, high))
found_first test from (suc n) s low high passes before = elim (cases_eq s from) [
  | inl same ↦ ap (λ (b : Bool). cond b (Some from) (first_passing test (from + 1) n)) (subst (λ (q : ℕ). test q ≡ true) same passes) ∙ ap (λ (q : ℕ). Some q) (sym same)
  | inr differs ↦
      let next : from + 1 ≤ s = grind (arith, low, differs) in
      ap (λ (b : Bool). cond b (Some from) (first_passing test (from + 1) n)) (before from (omega arith) (omega (arith, next)))
      ∙ found_first test (from + 1) n s next (omega (arith, high)) passes (λ q above below. before q (omega (arith, above)) below)
]

pub found_none : (test : ℕ → Bool) (from n : ℕ) → ((q : ℕ) → from ≤ q → q < from + n → test q ≡ false) → first_passing test from n ≡ None
unfolding first_passing
found_none test from zero none = refl
found_none test from (suc n) none =
    ap (λ (b : Bool). cond b (Some from) (first_passing test (from + 1) n)) (none from (omega arith) (omega arith))
    ∙ found_none test (from + 1) n (λ q above below. none q (omega (arith, above)) (omega (arith, below)))

-- the lowest free range is the first fit
pub lowest_is : (m : Memory) (count page : ℕ) → 1 ≤ count → IsFreeRange m count page → ((q : ℕ) → q < page → IsFreeRange m count q → ⊥) → first_fit m count ≡ Some page
lowest_is m count page some range lowest =
    let last = range.last in
    found_first (fits_at m count) 0x40000 0x3F000 page range.first (omega (arith, some, last)) (fitting m count page range)
    (λ q above below. false_from_ne_true (fits_at m count q) (λ h. lowest q below (range_of m count q above h)))

pub lowest_none : (m : Memory) (count : ℕ) → ((q : ℕ) → IsFreeRange m count q → ⊥) → first_fit m count ≡ None
lowest_none m count none = found_none (fits_at m count) 0x40000 0x3F000 (λ q above below. false_from_ne_true (fits_at m count q) (λ h. none q (range_of m count q above h)))

-- a search of the lowest free range gives the first fit
pub lowest_answer : (m : Memory) (count : ℕ) (o : Option ℕ) → 1 ≤ count → IfSome o (λ page. IsFreeRange m count page) → IfSome o (λ page. (q : ℕ) → q < page → ¬ IsFreeRange m count q) → IfNone o ((q : ℕ) → ¬ IsFreeRange m count q) → o ≡ first_fit m count
lowest_answer m count None some found lowest none = sym (lowest_none m count none)
lowest_answer m count (Some page) some found lowest none = sym (lowest_is m count page some found lowest)
