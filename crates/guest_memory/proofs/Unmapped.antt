-- Pages that are unmapped, table by table.
use Rattle.std.proofs.Common.{◌≡◌, ℕ, ◌+◌, ◌<◌, ◌≤◌, ◌/◌, ◌%◌, ◌^◌, ◌⊎◌, Bool, true, false, cond, List, [], ◌∷◌, get_or, length, set, Option, None, arith, refl, ap, subst, sym, ◌∙◌, inl, inr}
use Rattle.std.proofs.lemmas.Bool.{cases_eq, cases_lt}
use Rattle.std.proofs.lemmas.List.{get_or-set_other, get_or-set_same, length-set}
use Rattle.guest_words.specs.declared.rights.Rights.{Rights}
use Rattle.guest_memory.specs.Pages.{IsDirectory, page_of, table_of, no_rights}
use Rattle.guest_memory.specs.State.{memory_in, rights_of}
use Rattle.guest_memory.specs.Memory.{AreFree, Memory, is_among, with_pages}
use Rattle.guest_memory.proofs.WrittenBytes.{among_below, among_past, among_yes}

-- a choice in a range, then in that behind it
choice_more : {T : Type 0} (first k n q : ℕ) (o x : T) → cond (is_among (first + k) n q) o (cond (is_among first k q) o x) ≡ cond (is_among first (k + n) q) o x
choice_more first k n q o x = elim (cases_lt q (first + k)) [
  | inl low ↦ ap (λ (b : Bool). cond b o (cond (is_among first k q) o x)) (among_below (first + k) n q low) ∙ ap (λ (b : Bool). cond b o x) (early low)
  | inr from ↦ elim (cases_lt q (first + k + n)) [
    | inl high ↦
        ap (λ (b : Bool). cond b o (cond (is_among first k q) o x)) (among_yes (first + k) n q from high)
        ∙ sym (ap (λ (b : Bool). cond b o x) (among_yes first (k + n) q (omega (arith, from)) (omega (arith, high))))
    | inr past ↦
        ap (λ (b : Bool). cond b o (cond (is_among first k q) o x)) (among_past (first + k) n q past)
        ∙ ap (λ (b : Bool). cond b o x) (among_past first k q from ∙ sym (among_past first (k + n) q (omega (arith, past))))
  ]
] where
  early : q < first + k → is_among first k q ≡ is_among first (k + n) q
  early low = elim (cases_lt q first) [
    | inl below ↦ among_below first k q below ∙ sym (among_below first (k + n) q below)
    | inr from ↦ among_yes first k q from low ∙ sym (among_yes first (k + n) q from (omega (arith, low)))
  ]

pub with_pages-more : (m : Memory) (first k n : ℕ) (o : Option Rights) → with_pages (with_pages m first k o) (first + k) n o ≡ with_pages m first (k + n) o
with_pages-more m first k n o = λ i. record { rights = λ q. choice_more first k n q o (m.rights q) i; byte = λ q. choice_more first k n (q / 4096) 0 (m.byte q) i }

-- a choice where both are the same
same_choice : {T : Type 0} (first count q : ℕ) (o x : T) → (first ≤ q → q < first + count → x ≡ o) → cond (is_among first count q) o x ≡ x
same_choice first count q o x same = elim (cases_lt q first) [
  | inl low ↦ ap (λ (b : Bool). cond b o x) (among_below first count q low)
  | inr from ↦ elim (cases_lt q (first + count)) [
    | inl high ↦ by (is_among first count q) (sym (same from high))
    | inr past ↦ ap (λ (b : Bool). cond b o x) (among_past first count q past)
  ]
] where
  by : (b : Bool) → o ≡ x → cond b o x ≡ x
  by true e = e
  by false e = refl

-- pages of a table that is not there are unmapped as they are
pub none_to_unmap : (d : List (List (Rights × List ℕ))) (page count : ℕ) → page % 1024 + count ≤ 1024 → table_of d page ≡ [] → with_pages (memory_in d) page count None ≡ memory_in d
none_to_unmap d page count within none = λ i. record {
  rights = λ q. same_choice page count q None ((memory_in d).rights q) (λ from high. ap rights_of (absent q from high)) i;
  byte = λ q. same_choice page count (q / 4096) 0 ((memory_in d).byte q) (λ from high. ap (λ (p : Rights × List ℕ). get_or p.1 (q % 4096) 0) (absent (q / 4096) from high)) i;
} where
  absent : (q : ℕ) → page ≤ q → q < page + count → page_of d q ≡ (no_rights, [])
  absent q from high =
      let table : q / 2 ^ 10 ≡ page / 2 ^ 10 = omega (arith, from, high, within) in
      ap (λ (t : List (Rights × List ℕ)). get_or t (q % 1024) (no_rights, [])) (ap (λ (n : ℕ). get_or d n []) table ∙ none)

-- the directory without a table
abbrev pub without_table : List (List (Rights × List ℕ)) → ℕ → List (List (Rights × List ℕ))
without_table d a = set d a []

pub directory_without : (d : List (List (Rights × List ℕ))) (a : ℕ) → a < length d → IsDirectory d → IsDirectory (without_table d a)
directory_without d a lt h = record {
  top = length-set d a [] ∙ h.top;
  tables = λ i low. elim (cases_eq i a) [
    | inl same ↦ inl (ap length (ap (λ (k : ℕ). get_or (without_table d a) k []) same ∙ get_or-set_same d a [] [] lt))
    | inr differs ↦ subst (λ (t : List (Rights × List ℕ)). (length t ≡ 0) ⊎ (length t ≡ 1024)) (sym (get_or-set_other d a i [] [] differs)) (h.tables i (omega (arith, low, length-set d a [])))
  ];
  pages = λ i j low inside. elim (cases_eq i a) [
    | inl same ↦
        let none : length (get_or (without_table d a) i []) ≡ 0 = ap length (ap (λ (k : ℕ). get_or (without_table d a) k []) same ∙ get_or-set_same d a [] [] lt) in
        absurd (omega (arith, none, inside))
    | inr differs ↦
        let other = get_or-set_other d a i [] [] differs in
        subst (λ (t : List (Rights × List ℕ)). (length (get_or t j (no_rights, [])).1 ≡ 0) ⊎ (length (get_or t j (no_rights, [])).1 ≡ 4096)) (sym other)
        (h.pages i j (omega (arith, low, length-set d a [])) (subst (λ (t : List (Rights × List ℕ)). j < length t) other inside))
  ];
}

-- a page without rights has no byte
no_bytes : (p : Rights × List ℕ) → rights_of p ≡ None → p.1 ≡ []
no_bytes (r, []) none = refl
no_bytes (r, b ∷ bytes) none = absurd (cc)

-- a table of pages of which none is mapped is dropped
pub memory_without : (d : List (List (Rights × List ℕ))) (first : ℕ) → first / 2 ^ 10 < length d → first % 1024 ≡ 0 → AreFree (memory_in d) first 1024 →
    memory_in (without_table d (first / 2 ^ 10)) ≡ memory_in d
memory_without d first lt whole free = λ i. record {
  rights = λ q. rights_at q i;
  byte = λ q. byte_at q i;
} where
  gone : (q : ℕ) → q / 2 ^ 10 ≡ first / 2 ^ 10 → page_of (without_table d (first / 2 ^ 10)) q ≡ (no_rights, [])
  gone q same =
      ap (λ (t : List (Rights × List ℕ)). get_or t (q % 1024) (no_rights, []))
      (ap (λ (k : ℕ). get_or (without_table d (first / 2 ^ 10)) k []) same ∙ get_or-set_same d (first / 2 ^ 10) [] [] lt)

  kept : (q : ℕ) → (q / 2 ^ 10 ≡ first / 2 ^ 10 → ⊥) → page_of (without_table d (first / 2 ^ 10)) q ≡ page_of d q
  kept q differs = ap (λ (t : List (Rights × List ℕ)). get_or t (q % 1024) (no_rights, [])) (get_or-set_other d (first / 2 ^ 10) (q / 2 ^ 10) [] [] differs)

  was_free : (q : ℕ) → q / 2 ^ 10 ≡ first / 2 ^ 10 → rights_of (page_of d q) ≡ None
  was_free q same = free q (omega (arith, same, whole)) (omega (arith, same, whole))

  rights_at : (q : ℕ) → rights_of (page_of (without_table d (first / 2 ^ 10)) q) ≡ rights_of (page_of d q)
  rights_at q = elim (cases_eq (q / 2 ^ 10) (first / 2 ^ 10)) [
    | inl same ↦ ap rights_of (gone q same) ∙ sym (was_free q same)
    | inr differs ↦ ap rights_of (kept q differs)
  ]

  byte_at : (q : ℕ) → get_or (page_of (without_table d (first / 2 ^ 10)) (q / 4096)).1 (q % 4096) 0 ≡ get_or (page_of d (q / 4096)).1 (q % 4096) 0
  byte_at q = elim (cases_eq (q / 4096 / 2 ^ 10) (first / 2 ^ 10)) [
    | inl same ↦
        ap (λ (p : Rights × List ℕ). get_or p.1 (q % 4096) 0) (gone (q / 4096) same)
        ∙ sym (ap (λ (bytes : List ℕ). get_or bytes (q % 4096) 0) (no_bytes (page_of d (q / 4096)) (was_free (q / 4096) same)))
    | inr differs ↦ ap (λ (p : Rights × List ℕ). get_or p.1 (q % 4096) 0) (kept (q / 4096) differs)
  ]

-- pages that are unmapped are free
pub unmapped_free : (m n : Memory) (first count : ℕ) → n ≡ with_pages m first count None → AreFree n first count
unmapped_free m n first count is q from high =
    ap (λ (v : Memory). v.rights q) is ∙ ap (λ (b : Bool). cond b None (m.rights q)) (among_yes first count q from high)
