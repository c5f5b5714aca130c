-- One entry set in a directory, and one table made.
use Rattle.std.proofs.Common.{zero, suc, refl, ◌++◌, ◌∷◌, ◌≡◌, ◌≢◌, ℕ, ◌<◌, ◌≤◌, ◌/◌, ◌%◌, ◌^◌, List, [], length, get_or, set, arith, ap, ap₂, sym, ◌∙◌, subst, inl, inr, ◌⊎◌, map, Vec, Global, replicate, Option, Some, None}
use Rattle.std.specs.Vec.{with_item}
use Rattle.std.proofs.lemmas.Bool.{cases_eq, cases_lt}
use Rattle.std.proofs.lemmas.List.{get_or-set_other, get_or-set_same, get_or_past, length-set, get_or-map, length-map, map-set, get_or-replicate, length-replicate}
use Rattle.std.proofs.lemmas.Option.{none-some}
use Rattle.shadow_pages.specs.Directory.{HasTable, IsDirectory, entry, table_of}

-- the directory with another entry
abbrev pub with_entry : List (List (Option ℕ)) → ℕ → Option ℕ → List (List (Option ℕ))
with_entry d n x = set d (n / 2 ^ 10) (set (table_of d n) (n % 1024) x)

table_length : (d : List (List (Option ℕ))) (n : ℕ) (x : Option ℕ) (i : ℕ) → n / 2 ^ 10 < length d → length (get_or (with_entry d n x) i []) ≡ length (get_or d i [])
table_length d n x i lt = elim (cases_eq i (n / 2 ^ 10)) [
  | inl same ↦ rw same (rw (get_or-set_same d (n / 2 ^ 10) (set (table_of d n) (n % 1024) x) [] lt) (length-set (table_of d n) (n % 1024) x))
  | inr differs ↦ ap length (get_or-set_other d (n / 2 ^ 10) i (set (table_of d n) (n % 1024) x) [] differs)
]

pub entry_here : (d : List (List (Option ℕ))) (n : ℕ) (x : Option ℕ) → HasTable d n → entry (with_entry d n x) n ≡ x
entry_here d n x has = rw (get_or-set_same d (n / 2 ^ 10) (set (table_of d n) (n % 1024) x) [] has.table) (get_or-set_same (table_of d n) (n % 1024) x None has.entries)

same_number : (v w : ℕ) → v / 2 ^ 10 ≡ w / 2 ^ 10 → v % 1024 ≡ w % 1024 → v ≡ w
same_number v w a b = omega arith

pub entry_there : (d : List (List (Option ℕ))) (n : ℕ) (x : Option ℕ) (other : ℕ) → HasTable d n → other ≢ n → entry (with_entry d n x) other ≡ entry d other
entry_there d n x other has ne = elim (cases_eq (other / 2 ^ 10) (n / 2 ^ 10)) [
  | inl same ↦
      let apart : other % 1024 ≢ n % 1024 = λ e. ne (same_number other n same e) in
      ap (λ k. get_or (get_or (with_entry d n x) k []) (other % 1024) None) same
      ∙ ap (λ (t : List (Option ℕ)). get_or t (other % 1024) None) (get_or-set_same d (n / 2 ^ 10) (set (table_of d n) (n % 1024) x) [] has.table)
      ∙ get_or-set_other (table_of d n) (n % 1024) (other % 1024) x None apart
      ∙ ap (λ k. get_or (get_or d k []) (other % 1024) None) (sym same)
  | inr differs ↦ ap (λ t. get_or t (other % 1024) None) (get_or-set_other d (n / 2 ^ 10) (other / 2 ^ 10) (set (table_of d n) (n % 1024) x) [] differs)
]

pub table_kept : (d : List (List (Option ℕ))) (n : ℕ) (x : Option ℕ) (other : ℕ) → HasTable d n → HasTable d other → HasTable (with_entry d n x) other
table_kept d n x other has old = record {
  table = subst (λ k. other / 2 ^ 10 < k) (sym (length-set d (n / 2 ^ 10) (set (table_of d n) (n % 1024) x))) old.table;
  entries = subst (λ k. other % 1024 < k) (sym (table_length d n x (other / 2 ^ 10) has.table)) old.entries;
}

pub directory_kept : (d : List (List (Option ℕ))) (n : ℕ) (x : Option ℕ) → HasTable d n → IsDirectory d → IsDirectory (with_entry d n x)
directory_kept d n x has h =
    let size = length-set d (n / 2 ^ 10) (set (table_of d n) (n % 1024) x) in
    λ i low. let low2 : i < length d = omega arith in subst (λ k. (k ≡ 0) ⊎ (k ≡ 1024)) (sym (table_length d n x i has.table)) (h i low2)

-- a page with a place has its table
pub placed : (d : List (List (Option ℕ))) (n i : ℕ) → entry d n ≡ Some i → HasTable d n
placed d n i is = elim (cases_lt (n / 2 ^ 10) (length d)) [
  | inl table ↦ elim (cases_lt (n % 1024) (length (table_of d n))) [
    | inl entries ↦ record { table = table; entries = entries }
    | inr past ↦ absurd (none-some i (sym (get_or_past (table_of d n) (n % 1024) None past) ∙ is))
  ]
  | inr past ↦ absurd (none-some i (sym (ap (λ (t : List (Option ℕ)). get_or t (n % 1024) None) (get_or_past d (n / 2 ^ 10) [] past)) ∙ is))
]

-- what the fields show

abbrev pub table_seen : Vec (Option ℕ) Global → List (Option ℕ)
table_seen t = t.items

pub entry_written : (d : List (List (Option ℕ))) (tables : List (Vec (Option ℕ) Global)) (n : ℕ) (table : Vec (Option ℕ) Global) (x : Option ℕ) → map table_seen tables ≡ d → table ≡ get_or tables (n / 2 ^ 10) table → HasTable d n
    → map table_seen (set tables (n / 2 ^ 10) (with_item table (n % 1024) x)) ≡ with_entry d n x
entry_written d tables n table x seen is has =
    let lt : n / 2 ^ 10 < length tables = rw (← seen, length-map) at has.table in
    let t : table_of d n ≡ table.items = ap (λ (v : List (List (Option ℕ))). get_or v (n / 2 ^ 10) []) (sym seen) ∙ (get_or-map table_seen tables (n / 2 ^ 10) table [] lt ∙ ap table_seen (sym is)) in
    map-set table_seen tables (n / 2 ^ 10) (with_item table (n % 1024) x)
    ∙ ap₂ (λ (v : List (List (Option ℕ))) (xs : List (Option ℕ)). set v (n / 2 ^ 10) (set xs (n % 1024) x)) seen (sym t)

abbrev no_place : Option ℕ
no_place = None

-- a new table in place of an empty one
abbrev pub with_table : List (List (Option ℕ)) → ℕ → List (List (Option ℕ))
with_table d a = set d a (replicate 1024 no_place)

none_in : (n j : ℕ) → get_or (replicate n no_place) j None ≡ None
none_in n j = elim (cases_lt j n) [
  | inl low ↦ get_or-replicate n j no_place None low
  | inr past ↦ let size = length-replicate n no_place in let over : length (replicate n no_place) ≤ j = omega arith in get_or_past (replicate n no_place) j None over
]

pub entry_with_table : (d : List (List (Option ℕ))) (a n : ℕ) → a < length d → length (get_or d a []) ≡ 0 → entry (with_table d a) n ≡ entry d n
entry_with_table d a n lt none = elim (cases_eq (n / 2 ^ 10) a) [
  | inl same ↦
      let old : get_or (get_or d a []) (n % 1024) None ≡ None = get_or_past (get_or d a []) (n % 1024) None (omega arith) in
      ap (λ k. get_or (get_or (with_table d a) k []) (n % 1024) None) same
      ∙ ap (λ (t : List (Option ℕ)). get_or t (n % 1024) None) (get_or-set_same d a (replicate 1024 no_place) [] lt)
      ∙ none_in 1024 (n % 1024)
      ∙ sym old
      ∙ ap (λ k. get_or (get_or d k []) (n % 1024) None) (sym same)
  | inr differs ↦ ap (λ t. get_or t (n % 1024) None) (get_or-set_other d a (n / 2 ^ 10) (replicate 1024 no_place) [] differs)
]

new_table_length : (d : List (List (Option ℕ))) (a : ℕ) → a < length d → length (get_or (with_table d a) a []) ≡ 1024
new_table_length d a lt = ap length (get_or-set_same d a (replicate 1024 no_place) [] lt) ∙ length-replicate 1024 no_place

pub has_new_table : (d : List (List (Option ℕ))) (n : ℕ) → n / 2 ^ 10 < length d → HasTable (with_table d (n / 2 ^ 10)) n
has_new_table d n lt =
    let size = length-set d (n / 2 ^ 10) (replicate 1024 no_place) in
    let long = new_table_length d (n / 2 ^ 10) lt in
    record { table = omega arith; entries = omega arith }

pub table_with_table : (d : List (List (Option ℕ))) (a n : ℕ) → a < length d → length (get_or d a []) ≡ 0 → HasTable d n → HasTable (with_table d a) n
table_with_table d a n lt none has =
    let size = length-set d a (replicate 1024 no_place) in
    let old = has.table in
    let old2 = has.entries in
    record {
      table = omega arith;
      entries = elim (cases_eq (n / 2 ^ 10) a) [
        | inl same ↦ let gone : length (table_of d n) ≡ 0 = ap (λ (k : ℕ). length (get_or d k [])) same ∙ none in absurd (omega arith)
        | inr differs ↦ subst (λ (t : List (Option ℕ)). n % 1024 < length t) (sym (get_or-set_other d a (n / 2 ^ 10) (replicate 1024 no_place) [] differs)) old2
      ];
    }

pub directory_with_table : (d : List (List (Option ℕ))) (a : ℕ) → a < length d → IsDirectory d → IsDirectory (with_table d a)
directory_with_table d a lt h =
    let size = length-set d a (replicate 1024 no_place) in
    λ i low. elim (cases_eq i a) [
      | inl same ↦ inr (ap (λ (k : ℕ). length (get_or (with_table d a) k [])) same ∙ new_table_length d a lt)
      | inr differs ↦ let low2 : i < length d = omega arith in subst (λ (t : List (Option ℕ)). (length t ≡ 0) ⊎ (length t ≡ 1024)) (sym (get_or-set_other d a i (replicate 1024 no_place) [] differs)) (h i low2)
    ]

pub table_added : (d : List (List (Option ℕ))) (tables : List (Vec (Option ℕ) Global)) (new : Vec (Option ℕ) Global) (a : ℕ) → map table_seen tables ≡ d → new.items ≡ replicate 1024 no_place → map table_seen (set tables a new) ≡ with_table d a
table_added d tables new a seen fresh = map-set table_seen tables a new ∙ ap₂ (λ (v : List (List (Option ℕ))) (t : List (Option ℕ)). set v a t) seen fresh

pub table_read : (d : List (List (Option ℕ))) (tables : List (Vec (Option ℕ) Global)) (table : Vec (Option ℕ) Global) (a : ℕ) → map table_seen tables ≡ d → a < length d → table ≡ get_or tables a table → get_or d a [] ≡ table.items
table_read d tables table a seen lt is =
    let low : a < length tables = rw (← seen, length-map) at lt in
    ap (λ (v : List (List (Option ℕ))). get_or v a []) (sym seen) ∙ (get_or-map table_seen tables a table [] low ∙ ap table_seen (sym is))

-- ---- a list of tables that grows by empty ones
pub table_pushed : (d : List (List (Option ℕ))) (table : List (Option ℕ)) (i : ℕ) → table ≡ [] → get_or (d ++ table ∷ []) i [] ≡ get_or d i []
table_pushed [] table zero none = none
table_pushed [] table (suc i) none = refl
table_pushed (t ∷ d) table zero none = refl
table_pushed (t ∷ d) table (suc i) none = table_pushed d table i none

pub entry_grown : (d e : List (List (Option ℕ))) (n : ℕ) → ((i : ℕ) → get_or e i [] ≡ get_or d i []) → entry e n ≡ entry d n
entry_grown d e n same = ap (λ (t : List (Option ℕ)). get_or t (n % 1024) None) (same (n / 2 ^ 10))

pub table_grown : (d e : List (List (Option ℕ))) (n : ℕ) → ((i : ℕ) → get_or e i [] ≡ get_or d i []) → length d ≤ length e → HasTable d n → HasTable e n
table_grown d e n same longer has = record {
  table = let low = has.table in omega (arith, low, longer);
  entries = subst (λ (t : List (Option ℕ)). n % 1024 < length t) (sym (same (n / 2 ^ 10))) has.entries;
}
