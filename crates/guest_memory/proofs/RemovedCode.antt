-- Code by page, and its index, where a page's code is dropped.
use Rattle.std.proofs.Common.{◌≡◌, ◌≢◌, ℕ, ◌+◌, ◌-◌, ◌<◌, List, length, get_or, set, ap, sym, ◌∙◌, arith, inl, inr, None}
use Rattle.std.proofs.lemmas.Bool.{cases_eq, cases_lt}
use Rattle.std.proofs.lemmas.List.{get_or-set_other, get_or-set_same, length-set}
use Rattle.guest_memory.specs.Private.CodePages.{IsIndex, page_at}
use Rattle.guest_memory.proofs.PagesOfCode.{Page, Pages, inside, same_page, within}

-- the number of the last page with code
abbrev pub last_number : Pages → ℕ
last_number pages = (page_at pages (length pages - 1)).0

-- The code of the last page takes the place of a page's.
pub record Removes (places : List ℕ) (pages rest : Pages) (page place : ℕ) : Type 0 where
  pub index : IsIndex places pages
  pub some : 0 < place
  pub is : get_or places page 0 ≡ place
  pub size : length rest + 1 ≡ length pages
  pub moved : place + 1 < length pages → page_at rest place ≡ page_at pages (length pages - 1)
  pub others : (k : ℕ) → k ≢ place → k + 1 < length pages → page_at rest k ≡ page_at pages k

abbrev pub without : List ℕ → Pages → ℕ → ℕ → List ℕ
without places pages page place = set (set places (last_number pages) place) page 0

pub last_at : (places : List ℕ) (pages : Pages) → IsIndex places pages → (place : ℕ) → 0 < place → place < length pages → get_or places (last_number pages) 0 ≡ length pages - 1
last_at places pages index place some low = index.indexed (length pages - 1) (omega (arith, low, some)) (omega (arith, low))

bound : (places : List ℕ) (pages rest : Pages) (page place : ℕ) → Removes places pages rest page place → place < length pages
bound places pages rest page place r = omega (arith, r.is, inside places pages r.index page)

gone_at : (places : List ℕ) (pages rest : Pages) (page place : ℕ) → Removes places pages rest page place → get_or (without places pages page place) page 0 ≡ 0
gone_at places pages rest page place r =
    let low = within places page (omega (arith, r.is, r.some)) in
    get_or-set_same (set places (last_number pages) place) page 0 0 (omega (arith, low, length-set places (last_number pages) place))

moved_at : (places : List ℕ) (pages rest : Pages) (page place : ℕ) → Removes places pages rest page place → last_number pages ≢ page →
    get_or (without places pages page place) (last_number pages) 0 ≡ place
moved_at places pages rest page place r differs =
    let low = bound places pages rest page place r in
    get_or-set_other (set places (last_number pages) place) page (last_number pages) 0 0 differs
    ∙ get_or-set_same places (last_number pages) place 0 (within places (last_number pages) (omega (arith, (last_at places pages r.index place r.some (bound places pages rest page place r)), low, r.some)))

other_at : (places : List ℕ) (pages : Pages) (page place n : ℕ) → n ≢ page → n ≢ last_number pages → get_or (without places pages page place) n 0 ≡ get_or places n 0
other_at places pages page place n differs unmoved =
    get_or-set_other (set places (last_number pages) place) page n 0 0 differs ∙ get_or-set_other places (last_number pages) n place 0 unmoved

-- where the last page is another one, it moves
inner : (places : List ℕ) (pages rest : Pages) (page place : ℕ) → Removes places pages rest page place → last_number pages ≢ page → place + 1 < length pages
inner places pages rest page place r differs =
    let low = bound places pages rest page place r in
    elim (cases_eq place (length pages - 1)) [
      | inl same ↦
          absurd (differs (ap (λ k. (page_at pages k).0) (sym same ∙ sym r.is) ∙ r.index.numbered page (omega (arith, r.is, r.some))))
      | inr other ↦ omega (arith, low, other)
    ]

-- the place of a page that is neither
below_at : (places : List ℕ) (pages rest : Pages) (page place : ℕ) → Removes places pages rest page place → (n : ℕ) → n ≢ last_number pages → get_or places n 0 + 1 < length pages
below_at places pages rest page place r n unmoved =
    let low = bound places pages rest page place r in
    elim (cases_lt (get_or places n 0 + 1) (length pages)) [
      | inl below ↦ below
      | inr past ↦
          let last : get_or places n 0 ≡ length pages - 1 = omega (arith, past, inside places pages r.index n) in
          absurd (unmoved (sym (r.index.numbered n (omega (arith, last, low, r.some))) ∙ ap (λ k. (page_at pages k).0) last))
    ]

kept_at : (places : List ℕ) (pages rest : Pages) (page place : ℕ) → Removes places pages rest page place → (n : ℕ) → n ≢ page → n ≢ last_number pages →
    page_at rest (get_or places n 0) ≡ page_at pages (get_or places n 0)
kept_at places pages rest page place r n differs unmoved =
    r.others (get_or places n 0)
    (λ e. differs (same_page places pages r.index n page (omega (arith, e, r.some)) (e ∙ sym r.is)))
    (below_at places pages rest page place r n unmoved)

pub index_removed : (places : List ℕ) (pages rest : Pages) (page place : ℕ) → Removes places pages rest page place → IsIndex (without places pages page place) rest
index_removed places pages rest page place r =
    let low = bound places pages rest page place r in
    let gone = gone_at places pages rest page place r in
    record {
      first = omega (arith, low, r.some, r.size);
      blank = λ word. ap (λ (q : Page). get_or q.1 word None) (r.others 0 (λ e. absurd (omega (arith, e, r.some))) (omega (arith, low, r.some))) ∙ r.index.blank word;
      placed = λ n h. elim (cases_eq n page) [
        | inl same ↦ let none : get_or (without places pages page place) n 0 ≡ 0 = ap (λ k. get_or (without places pages page place) k 0) same ∙ gone in absurd (omega (arith, none, h))
        | inr differs ↦ elim (cases_eq n (last_number pages)) [
          | inl last ↦
              let apart : last_number pages ≢ page = λ e. differs (last ∙ e) in
              let at : get_or (without places pages page place) n 0 ≡ place = ap (λ k. get_or (without places pages page place) k 0) last ∙ moved_at places pages rest page place r apart in
              omega (arith, at, inner places pages rest page place r apart, r.size)
          | inr unmoved ↦ omega (arith, other_at places pages page place n differs unmoved, below_at places pages rest page place r n unmoved, r.size)
        ]
      ];
      numbered = λ n h. elim (cases_eq n page) [
        | inl same ↦ let none : get_or (without places pages page place) n 0 ≡ 0 = ap (λ k. get_or (without places pages page place) k 0) same ∙ gone in absurd (omega (arith, none, h))
        | inr differs ↦ elim (cases_eq n (last_number pages)) [
          | inl last ↦
              let apart : last_number pages ≢ page = λ e. differs (last ∙ e) in
              ap (λ k. (page_at rest k).0) (ap (λ k. get_or (without places pages page place) k 0) last ∙ moved_at places pages rest page place r apart)
              ∙ ap (λ (q : Page). q.0) (r.moved (inner places pages rest page place r apart)) ∙ sym last
          | inr unmoved ↦
              let at = other_at places pages page place n differs unmoved in
              ap (λ k. (page_at rest k).0) at ∙ ap (λ (q : Page). q.0) (kept_at places pages rest page place r n differs unmoved) ∙ r.index.numbered n (omega (arith, at, h))
        ]
      ];
      indexed = λ k h below. elim (cases_eq k place) [
        | inl same ↦
            let inner_place : place + 1 < length pages = omega (arith, same, below, r.size) in
            let apart : last_number pages ≢ page = λ e. let bad : length pages - 1 ≡ place = sym ((last_at places pages r.index place r.some (bound places pages rest page place r))) ∙ ap (λ n. get_or places n 0) e ∙ r.is in absurd (omega (arith, bad, inner_place)) in
            ap (λ j. get_or (without places pages page place) (page_at rest j).0 0) same
            ∙ ap (λ (q : Page). get_or (without places pages page place) q.0 0) (r.moved inner_place)
            ∙ moved_at places pages rest page place r apart ∙ sym same
        | inr other ↦
            let old : k + 1 < length pages = omega (arith, below, r.size) in
            let back : get_or places (page_at pages k).0 0 ≡ k = r.index.indexed k h (omega (arith, old)) in
            let differs : (page_at pages k).0 ≢ page = λ e. other (sym back ∙ ap (λ n. get_or places n 0) e ∙ r.is) in
            let unmoved : (page_at pages k).0 ≢ last_number pages = λ e. let bad : k ≡ length pages - 1 = sym back ∙ ap (λ n. get_or places n 0) e ∙ (last_at places pages r.index place r.some (bound places pages rest page place r)) in absurd (omega (arith, bad, old)) in
            ap (λ (q : Page). get_or (without places pages page place) q.0 0) (r.others k other old)
            ∙ other_at places pages page place (page_at pages k).0 differs unmoved ∙ back
      ];
    }
