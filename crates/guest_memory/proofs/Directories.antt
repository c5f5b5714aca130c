-- One page set in a directory.
use Rattle.std.proofs.Common.{◌≡◌, ◌≢◌, ℕ, ◌<◌, ◌≤◌, ◌/◌, ◌%◌, ◌^◌, [], length, get_or, set, arith, refl, ap, ap₂, sym, ◌∙◌, subst, inl, inr, ◌⊎◌, map, Vec, Global, replicate, List}
use Rattle.std.specs.Vec.{with_item}
use Rattle.std.proofs.lemmas.Bool.{cases_eq, cases_lt}
use Rattle.std.proofs.lemmas.List.{get_or-set_other, get_or-set_same, get_or_past, length-set, get_or-map, length-map, map-set, get_or-replicate, length-replicate}
use Rattle.guest_words.specs.declared.rights.Rights.{Rights}
use Rattle.guest_memory.specs.declared.directory.Page.{Page}
use Rattle.guest_memory.specs.Pages.{IsPlaced, zeros, IsDirectory, page_of, no_rights, table_of, with_page}

-- a page has no byte or 4096
abbrev pub IsPage : Rights × List ℕ → Type 0
IsPage p = (length p.1 ≡ 0) ⊎ (length p.1 ≡ 4096)

abbrev at : List (List (Rights × List ℕ)) → ℕ → ℕ → Rights × List ℕ
at d i j = get_or (get_or d i []) j (no_rights, [])

abbrev placed_at : List (List (Rights × List ℕ)) → ℕ → ℕ → Rights × List ℕ → List (List (Rights × List ℕ))
placed_at d a b p = set d a (set (get_or d a []) b p)

here : (d : List (List (Rights × List ℕ))) (a b : ℕ) (p : Rights × List ℕ) → a < length d → b < length (get_or d a []) → at (placed_at d a b p) a b ≡ p
here d a b p lt lt2 = rw (get_or-set_same d a (set (get_or d a []) b p) [] lt) (get_or-set_same (get_or d a []) b p (no_rights, []) lt2)

there : (d : List (List (Rights × List ℕ))) (a b : ℕ) (p : Rights × List ℕ) (i j : ℕ) → a < length d → ((i ≡ a) × (j ≡ b) → ⊥) → at (placed_at d a b p) i j ≡ at d i j
there d a b p i j lt ne = elim (cases_eq i a) [
  | inl same ↦
      let other : j ≢ b = λ e. ne (same, e) in
      rw same (rw (get_or-set_same d a (set (get_or d a []) b p) [] lt) (get_or-set_other (get_or d a []) b j p (no_rights, []) other))
  | inr differs ↦ ap (λ t. get_or t j (no_rights, [])) (get_or-set_other d a i (set (get_or d a []) b p) [] differs)
]

table_length : (d : List (List (Rights × List ℕ))) (a b : ℕ) (p : Rights × List ℕ) (i : ℕ) → a < length d → length (get_or (placed_at d a b p) i []) ≡ length (get_or d i [])
table_length d a b p i lt = elim (cases_eq i a) [
  | inl same ↦ rw same (rw (get_or-set_same d a (set (get_or d a []) b p) [] lt) (length-set (get_or d a []) b p))
  | inr differs ↦ ap length (get_or-set_other d a i (set (get_or d a []) b p) [] differs)
]

page_kept : (d : List (List (Rights × List ℕ))) (a b : ℕ) (p : Rights × List ℕ) (i j : ℕ) → a < length d → b < length (get_or d a []) → IsPage p → IsPage (at d i j) → IsPage (at (placed_at d a b p) i j)
page_kept d a b p i j lt lt2 new old = elim (cases_eq i a) [
  | inl first ↦ elim (cases_eq j b) [
    | inl second ↦ rw (first, second) (rw (here d a b p lt lt2) new)
    | inr differs ↦ subst IsPage (sym (there d a b p i j lt (λ e. differs e.1))) old
  ]
  | inr differs ↦ subst IsPage (sym (there d a b p i j lt (λ e. differs e.0))) old
]

-- a page with a byte has its place
pub placed : (d : List (List (Rights × List ℕ))) (number : ℕ) → 0 < length (page_of d number).1 → IsPlaced d number
placed d number some = elim (cases_lt (number / 2 ^ 10) (length d)) [
  | inl table ↦ elim (cases_lt (number % 1024) (length (table_of d number))) [
    | inl page ↦ record { table = table; page = page }
    | inr past ↦
        let gone : page_of d number ≡ (no_rights, []) = get_or_past (table_of d number) (number % 1024) (no_rights, []) past in
        let bad : 0 < 0 = subst (λ (p : Rights × List ℕ). 0 < length p.1) gone some in
        absurd (omega arith)
  ]
  | inr past ↦
      let gone : page_of d number ≡ (no_rights, []) = ap (λ (t : List (Rights × List ℕ)). get_or t (number % 1024) (no_rights, [])) (get_or_past d (number / 2 ^ 10) [] past) in
      let bad : 0 < 0 = subst (λ (p : Rights × List ℕ). 0 < length p.1) gone some in
      absurd (omega arith)
]

pub page_here : (d : List (List (Rights × List ℕ))) (number : ℕ) (p : Rights × List ℕ) → IsPlaced d number → page_of (with_page d number p) number ≡ p
page_here d number p place = here d (number / 2 ^ 10) (number % 1024) p place.table place.page

same_page : (v w : ℕ) → v / 2 ^ 10 ≡ w / 2 ^ 10 → v % 1024 ≡ w % 1024 → v ≡ w
same_page v w a b = omega arith

pub page_there : (d : List (List (Rights × List ℕ))) (number : ℕ) (p : Rights × List ℕ) (other : ℕ) → IsPlaced d number → other ≢ number → page_of (with_page d number p) other ≡ page_of d other
page_there d number p other place ne = there d (number / 2 ^ 10) (number % 1024) p (other / 2 ^ 10) (other % 1024) place.table (λ e. ne (same_page other number e.0 e.1))

pub placed_kept : (d : List (List (Rights × List ℕ))) (number : ℕ) (p : Rights × List ℕ) (other : ℕ) → IsPlaced d number → IsPlaced d other → IsPlaced (with_page d number p) other
placed_kept d number p other place old = record {
  table = subst (λ n. other / 2 ^ 10 < n) (sym (length-set d (number / 2 ^ 10) (set (table_of d number) (number % 1024) p))) old.table;
  page = subst (λ n. other % 1024 < n) (sym (table_length d (number / 2 ^ 10) (number % 1024) p (other / 2 ^ 10) place.table)) old.page;
}

pub directory_kept : (d : List (List (Rights × List ℕ))) (number : ℕ) (p : Rights × List ℕ) → IsPlaced d number → IsPage p → IsDirectory d → IsDirectory (with_page d number p)
directory_kept d number p place new h = record {
  top = length-set d (number / 2 ^ 10) (set (table_of d number) (number % 1024) p) ∙ h.top;
  tables = λ i low. let e = table_length d (number / 2 ^ 10) (number % 1024) p i place.table in let size = length-set d (number / 2 ^ 10) (set (table_of d number) (number % 1024) p) in let low2 : i < length d = omega arith in rw e (h.tables i low2);
  pages = λ i j low low2.
      let e = table_length d (number / 2 ^ 10) (number % 1024) p i place.table in
      let size = length-set d (number / 2 ^ 10) (set (table_of d number) (number % 1024) p) in
      let i_in : i < length d = omega arith in
      let j_in : j < length (get_or d i []) = omega arith in
      page_kept d (number / 2 ^ 10) (number % 1024) p i j place.table place.page new (h.pages i j i_in j_in);
}

pub is_page : (d : List (List (Rights × List ℕ))) (number : ℕ) → IsDirectory d → IsPage (page_of d number)
is_page d number h = elim (cases_lt 0 (length (page_of d number).1)) [
  | inl some ↦ let place = placed d number some in h.pages (number / 2 ^ 10) (number % 1024) place.table place.page
  | inr none ↦ inl (omega arith)
]

-- what the fields show

abbrev pub page_seen : Page → Rights × List ℕ
page_seen p = (p.rights, p.bytes.items)

abbrev pub table_seen : Vec Page Global → List (Rights × List ℕ)
table_seen t = map page_seen t.items

-- Two levels of the fields, as a write of one page reads them.
pub record IsRead (d : List (List (Rights × List ℕ))) (tables : List (Vec Page Global)) (number : ℕ) (table : Vec Page Global) (page : Page) : Type 0 where
  pub seen : map table_seen tables ≡ d
  pub in_tables : table ≡ get_or tables (number / 2 ^ 10) table
  pub in_table : page ≡ get_or table.items (number % 1024) page

table_read : (d : List (List (Rights × List ℕ))) (tables : List (Vec Page Global)) (number : ℕ) (table : Vec Page Global) (page : Page) → IsRead d tables number table page → IsPlaced d number → table_of d number ≡ table_seen table
table_read d tables number table page r place =
    let lt : number / 2 ^ 10 < length tables = rw (← r.seen, length-map) at place.table in
    ap (λ (v : List (List (Rights × List ℕ))). get_or v (number / 2 ^ 10) []) (sym r.seen) ∙ (get_or-map table_seen tables (number / 2 ^ 10) table [] lt ∙ ap table_seen (sym r.in_tables))

pub page_read : (d : List (List (Rights × List ℕ))) (tables : List (Vec Page Global)) (number : ℕ) (table : Vec Page Global) (page : Page) → IsRead d tables number table page → IsPlaced d number → page_of d number ≡ page_seen page
page_read d tables number table page r place =
    let t = table_read d tables number table page r place in
    let lt : number % 1024 < length table.items = rw (t, length-map) at place.page in
    ap (λ (v : List (Rights × List ℕ)). get_or v (number % 1024) (no_rights, [])) t ∙ (get_or-map page_seen table.items (number % 1024) page (no_rights, []) lt ∙ ap page_seen (sym r.in_table))

-- what the fields show after a write of one page
pub page_written : (d : List (List (Rights × List ℕ))) (tables : List (Vec Page Global)) (number : ℕ) (table : Vec Page Global) (page new : Page) → IsRead d tables number table page → IsPlaced d number
    → map table_seen (set tables (number / 2 ^ 10) (with_item table (number % 1024) new)) ≡ with_page d number (page_seen new)
page_written d tables number table page new r place =
    map-set table_seen tables (number / 2 ^ 10) (with_item table (number % 1024) new)
    ∙ (ap (set (map table_seen tables) (number / 2 ^ 10)) (map-set page_seen table.items (number % 1024) new)
    ∙ ap₂ (λ (v : List (List (Rights × List ℕ))) (ps : List (Rights × List ℕ)). set v (number / 2 ^ 10) (set ps (number % 1024) (page_seen new))) r.seen (sym (table_read d tables number table page r place)))

-- a page that is absent
abbrev pub absent : Rights × List ℕ
absent = (no_rights, [])

-- the directory with a table of absent pages in place of an empty table
abbrev pub with_table : List (List (Rights × List ℕ)) → ℕ → List (List (Rights × List ℕ))
with_table d a = set d a (replicate 1024 absent)

page_of_new_table : (d : List (List (Rights × List ℕ))) (a i j : ℕ) → a < length d → length (get_or d a []) ≡ 0 → at (with_table d a) i j ≡ at d i j
page_of_new_table d a i j lt none = elim (cases_eq i a) [
  | inl same ↦
      let old : at d a j ≡ absent = get_or_past (get_or d a []) j absent (omega arith) in
      rw same (ap (λ (t : List (Rights × List ℕ)). get_or t j absent) (get_or-set_same d a (replicate 1024 absent) [] lt) ∙ (absent_in 1024 j ∙ sym old))
  | inr differs ↦ ap (λ t. get_or t j absent) (get_or-set_other d a i (replicate 1024 absent) [] differs)
] where
  absent_in : (n j : ℕ) → get_or (replicate n absent) j absent ≡ absent
  absent_in n j = elim (cases_lt j n) [
    | inl low ↦ get_or-replicate n j absent absent low
    | inr past ↦ let size = length-replicate n absent in let over : length (replicate n absent) ≤ j = omega arith in get_or_past (replicate n absent) j absent over
  ]

pub page_with_table : (d : List (List (Rights × List ℕ))) (a number : ℕ) → a < length d → length (get_or d a []) ≡ 0 → page_of (with_table d a) number ≡ page_of d number
page_with_table d a number lt none = page_of_new_table d a (number / 2 ^ 10) (number % 1024) lt none

new_table_length : (d : List (List (Rights × List ℕ))) (a : ℕ) → a < length d → length (get_or (with_table d a) a []) ≡ 1024
new_table_length d a lt = ap length (get_or-set_same d a (replicate 1024 absent) [] lt) ∙ length-replicate 1024 absent

pub placed_in_new_table : (d : List (List (Rights × List ℕ))) (number : ℕ) → number / 2 ^ 10 < length d → IsPlaced (with_table d (number / 2 ^ 10)) number
placed_in_new_table d number lt =
    let size = length-set d (number / 2 ^ 10) (replicate 1024 absent) in
    let long = new_table_length d (number / 2 ^ 10) lt in
    record { table = omega arith; page = omega arith }

pub placed_with_table : (d : List (List (Rights × List ℕ))) (a number : ℕ) → a < length d → length (get_or d a []) ≡ 0 → IsPlaced d number → IsPlaced (with_table d a) number
placed_with_table d a number lt none place =
    let size = length-set d a (replicate 1024 absent) in
    let old = place.table in
    let old2 = place.page in
    record {
      table = omega arith;
      page = elim (cases_eq (number / 2 ^ 10) a) [
        | inl same ↦ let gone : length (table_of d number) ≡ 0 = ap (λ (k : ℕ). length (get_or d k [])) same ∙ none in absurd (omega arith)
        | inr differs ↦ subst (λ (t : List (Rights × List ℕ)). number % 1024 < length t) (sym (get_or-set_other d a (number / 2 ^ 10) (replicate 1024 absent) [] differs)) old2
      ];
    }

pub directory_with_table : (d : List (List (Rights × List ℕ))) (a : ℕ) → a < length d → length (get_or d a []) ≡ 0 → IsDirectory d → IsDirectory (with_table d a)
directory_with_table d a lt none h =
    let size = length-set d a (replicate 1024 absent) in
    record {
      top = size ∙ h.top;
      tables = λ i low. elim (cases_eq i a) [
        | inl same ↦ inr (ap (λ (k : ℕ). length (get_or (with_table d a) k [])) same ∙ new_table_length d a lt)
        | inr differs ↦ let low2 : i < length d = omega arith in subst (λ (t : List (Rights × List ℕ)). (length t ≡ 0) ⊎ (length t ≡ 1024)) (sym (get_or-set_other d a i (replicate 1024 absent) [] differs)) (h.tables i low2)
      ];
      pages = λ i j low low2.
          let low3 : i < length d = omega arith in
          subst IsPage (sym (page_of_new_table d a i j lt none)) (elim (cases_lt j (length (get_or d i []))) [
            | inl inside ↦ h.pages i j low3 inside
            | inr past ↦ inl (ap (λ (p : Rights × List ℕ). length p.1) (get_or_past (get_or d i []) j absent past))
          ]);
    }

-- a directory of empty tables
no_tables : (n i : ℕ) → get_or (replicate n (let t : List (Rights × List ℕ) = [] in t)) i [] ≡ []
no_tables n i = elim (cases_lt i n) [
  | inl low ↦ get_or-replicate n i [] [] low
  | inr past ↦ let t : List (Rights × List ℕ) = [] in let size = length-replicate n t in let over : length (replicate n t) ≤ i = omega arith in get_or_past (replicate n t) i [] over
]

abbrev pub empty_directory : List (List (Rights × List ℕ))
empty_directory = replicate 1024 []

pub empty_is_directory : IsDirectory empty_directory
empty_is_directory = record {
  top = length-replicate 1024 (let t : List (Rights × List ℕ) = [] in t);
  tables = λ i low. inl (ap length (no_tables 1024 i));
  pages = λ i j low low2. let none = no_tables 1024 i in let bad : j < 0 = rw none at low2 in absurd (omega arith);
}

pub empty_page : (number : ℕ) → page_of empty_directory number ≡ absent
empty_page number = ap (λ (t : List (Rights × List ℕ)). get_or t (number % 1024) absent) (no_tables 1024 (number / 2 ^ 10))

pub length-zeros : length zeros ≡ 4096
unfolding zeros
length-zeros = length-replicate {A = ℕ} 4096 0

zero_at : (n k none : ℕ) → none ≡ 0 → get_or (replicate n none) k 0 ≡ 0
zero_at n k none is = elim (cases_lt k n) [
  | inl low ↦ get_or-replicate n k none 0 low ∙ is
  | inr past ↦ let size = length-replicate n none in let over : length (replicate n none) ≤ k = omega arith in get_or_past (replicate n none) k 0 over
]

pub zeros_at : (k : ℕ) → get_or zeros k 0 ≡ 0
unfolding zeros
zeros_at k = zero_at 4096 k 0 refl

-- a table of absent pages in the fields
pub table_added : (d : List (List (Rights × List ℕ))) (tables : List (Vec Page Global)) (new : Vec Page Global) (a : ℕ) → map table_seen tables ≡ d → map page_seen new.items ≡ replicate 1024 absent → map table_seen (set tables a new) ≡ with_table d a
table_added d tables new a seen fresh = map-set table_seen tables a new ∙ ap₂ (λ (v : List (List (Rights × List ℕ))) (t : List (Rights × List ℕ)). set v a t) seen fresh

pub table_was_empty : (d : List (List (Rights × List ℕ))) (tables : List (Vec Page Global)) (table : Vec Page Global) (a : ℕ) → map table_seen tables ≡ d → a < length d → table ≡ get_or tables a table → length table.items ≡ 0 → length (get_or d a []) ≡ 0
table_was_empty d tables table a seen lt is none =
    let low : a < length tables = rw (← seen, length-map) at lt in
    ap (λ (v : List (List (Rights × List ℕ))). length (get_or v a [])) (sym seen) ∙ (ap length (get_or-map table_seen tables a table [] low ∙ ap table_seen (sym is)) ∙ (length-map table.items page_seen ∙ none))
