-- Code by page, and its index.
use Rattle.std.proofs.Common.{Bor, subst, nat_lt, ◌≡◌, ◌≢◌, ℕ, zero, suc, ◌+◌, ◌*◌, ◌<◌, ◌≤◌, ◌/◌, ◌%◌, List, [], ◌∷◌, ◌++◌, length, get_or, set, replicate, ap, sym, refl, ◌∙◌, arith, inl, inr, ◌⊎◌, Option, Some, None, Ok, IfSome}
use Rattle.std.specs.Option.{is_some, option_map, unwrap_or}
use Rattle.std.proofs.lemmas.Bool.{cases_eq, cases_lt}
use Rattle.std.proofs.lemmas.Bool.Decides.{nat_tests}
use Rattle.std.proofs.lemmas.List.{get_or-set_other, get_or-set_same, get_or_past, get_or-replicate, length-replicate, get_or_append_left, get_or_push}
use Rattle.guest_memory.specs.declared.refusal.Permission.TheVariants as permission
use Rattle.guest_memory.specs.Memory.{Memory, loaded, with_bytes}
use Rattle.guest_memory.specs.Code.{IsCodeOf, IsInstructionAt}
use Rattle.guest_memory.specs.Private.HeldCode.{instruction_of}
use Rattle.guest_memory.specs.Private.CodePages.{AreForgotten, IsIndex, known_in, no_code, page_at}
use Rattle.guest_memory.proofs.KeptCode.{Holds, fetched, holds_after, is_instruction, loads_stay}
use Rattle.rv_isa.specs.Table.{decoded}
use Rattle.rv_isa.specs.declared.instruction.Instr.{Instr}

abbrev pub Pages : Type 0
Pages = List (ℕ × List (Option Instr))

abbrev pub Page : Type 0
Page = ℕ × List (Option Instr)

if_some : (P : Instr → Type 0) (o : Option Instr) → ((i : Instr) → o ≡ Some i → P i) → IfSome o P
if_some P None each = tt
if_some P (Some i) each = each i refl

-- a number that an index gives is at one of its places
pub within : (places : List ℕ) (number : ℕ) → 0 < get_or places number 0 → number < length places
within places number some = elim (cases_lt number (length places)) [
  | inl low ↦ low
  | inr past ↦ let none : get_or places number 0 ≡ 0 = get_or_past places number 0 past in absurd (omega (arith, none, some))
]

-- two pages with code at one place are one
pub same_page : (places : List ℕ) (pages : Pages) → IsIndex places pages → (a b : ℕ) → 0 < get_or places a 0 → get_or places a 0 ≡ get_or places b 0 → a ≡ b
same_page places pages index a b some same =
    sym (index.numbered a some) ∙ ap (λ k. (page_at pages k).0) same ∙ index.numbered b (omega (arith, some, same))

-- where a page's place is 0, none of its words is known
pub none_known : (places : List ℕ) (pages : Pages) → IsIndex places pages → (word : ℕ) → get_or places (word / 1024) 0 ≡ 0 → known_in places pages word ≡ None
none_known places pages index word none = ap (λ k. get_or (page_at pages k).1 (word % 1024) None) none ∙ index.blank (word % 1024)

-- what a page at a place has of a word of its own is what is known
pub none_or_known : (places : List ℕ) (pages : Pages) → IsIndex places pages → (place word : ℕ) (i : Instr) → place < length pages →
    (page_at pages place).0 ≡ word / 1024 → get_or (page_at pages place).1 (word % 1024) None ≡ Some i → known_in places pages word ≡ Some i
none_or_known places pages index zero word i inside number is = absurd (let no : None ≡ Some i = sym (index.blank (word % 1024)) ∙ is in cc)
none_or_known places pages index (suc k) word i inside number is =
    let place : get_or places (word / 1024) 0 ≡ suc k = ap (λ n. get_or places n 0) (sym number) ∙ index.indexed (suc k) (omega arith) inside in
    ap (λ n. get_or (page_at pages n).1 (word % 1024) None) place ∙ is

-- what the page at a place knows is what the memory holds
code_at : (places : List ℕ) (pages : Pages) (m : Memory) → IsIndex places pages → Holds (known_in places pages) m →
    (place : ℕ) → place < length pages → IsCodeOf m (page_at pages place)
code_at places pages m index holds place inside at even number =
    let page : (page_at pages place).0 ≡ at / 4 / 1024 = omega (arith, number) in
    let whole : 4 * (at / 4) ≡ at = omega (arith, even) in
    if_some (IsInstructionAt m at) (get_or (page_at pages place).1 (at / 4 % 1024) None) (λ i is.
    is_instruction m at i (ap (fetched m) (sym whole) ∙ holds (at / 4) i (none_or_known places pages index place (at / 4) i inside page is)))

-- so does the page that is read at a place
pub code_found : (places : List ℕ) (pages : Pages) (m : Memory) → IsIndex places pages → Holds (known_in places pages) m → (place : ℕ) (o : Option (Bor Page)) →
    is_some o ≡ nat_lt place (length pages) → unwrap_or (option_map (λ page. page.now) o) no_code ≡ page_at pages place → IfSome o (λ page. IsCodeOf m page.now)
code_found places pages m index holds place None some is = tt
code_found places pages m index holds place (Some page) some is =
    subst (IsCodeOf m) (sym is) (code_at places pages m index holds place (grind (arith, nat_tests, some)))

-- ---- the code of one page changes
known_here : (places : List ℕ) (pages : Pages) (place : ℕ) (p : Page) (word : ℕ) → place < length pages → get_or places (word / 1024) 0 ≡ place →
    known_in places (set pages place p) word ≡ get_or p.1 (word % 1024) None
known_here places pages place p word inside is =
    ap (λ k. get_or (page_at (set pages place p) k).1 (word % 1024) None) is ∙ ap (λ (q : Page). get_or q.1 (word % 1024) None) (get_or-set_same pages place p no_code inside)

known_there : (places : List ℕ) (pages : Pages) (place : ℕ) (p : Page) (word : ℕ) → get_or places (word / 1024) 0 ≢ place →
    known_in places (set pages place p) word ≡ known_in places pages word
known_there places pages place p word differs =
    ap (λ (q : Page). get_or q.1 (word % 1024) None) (get_or-set_other pages place (get_or places (word / 1024) 0) p no_code differs)

-- one more instruction, or none of that word
pub holds_learned : (places : List ℕ) (pages : Pages) (m : Memory) → IsIndex places pages → Holds (known_in places pages) m →
    (at word : ℕ) (o : Option Instr) (place : ℕ) → at % 4 ≡ 0 → 0 < place → place ≡ get_or places (at / 4096) 0 → place < length pages →
    at / 4 % 1024 < length (page_at pages place).1 → loaded m permission.Execute at 4 ≡ Ok word → ((i : Instr) → o ≡ Some i → decoded word ≡ Some i) →
    Holds (known_in places (set pages place ((page_at pages place).0, set (page_at pages place).1 (at / 4 % 1024) o))) m
holds_learned places pages m index holds at word o place even some is inside low loads stands w j known =
    let code : List (Option Instr) = (page_at pages place).1 in
    let p : Page = ((page_at pages place).0, set code (at / 4 % 1024) o) in
    elim (cases_eq (get_or places (w / 1024) 0) place) [
      | inl here ↦ elim (cases_eq (w % 1024) (at / 4 % 1024)) [
        | inl same ↦
            let page : w / 1024 ≡ at / 4096 = same_page places pages index (w / 1024) (at / 4096) (omega (arith, here, some)) (here ∙ is) in
            let whole : 4 * w ≡ at = omega (arith, page, same, even) in
            let got : known_in places (set pages place p) w ≡ o =
            known_here places pages place p w inside here ∙ ap (λ k. get_or (set code (at / 4 % 1024) o) k None) same ∙ get_or-set_same code (at / 4 % 1024) o None low in
            ap (fetched m) whole ∙ ap instruction_of loads ∙ stands j (sym got ∙ known)
        | inr other ↦
            holds w j
            (ap (λ k. get_or (page_at pages k).1 (w % 1024) None) here ∙ sym (get_or-set_other code (at / 4 % 1024) (w % 1024) o None other)
            ∙ sym (known_here places pages place p w inside here) ∙ known)
      ]
      | inr there ↦ holds w j (sym (known_there places pages place p w there) ∙ known)
    ]

-- ---- bytes of a page are written
apart : (w at n : ℕ) → w / 1024 ≢ at / 4096 → at % 4096 + n ≤ 4096 → (4 * w + 4 ≤ at) ⊎ (at + n ≤ 4 * w)
apart w at n differs fits = elim (cases_lt (w / 1024) (at / 4096)) [ inl low ↦ inl (omega (arith, low)) | inr from ↦ inr (omega (arith, from, differs, fits)) ]

-- it has no code
pub holds_elsewhere : (places : List ℕ) (pages : Pages) (m : Memory) → IsIndex places pages → Holds (known_in places pages) m → (at : ℕ) (bytes : List ℕ) →
    get_or places (at / 4096) 0 ≡ 0 → at % 4096 + length bytes ≤ 4096 → Holds (known_in places pages) (with_bytes m at bytes)
holds_elsewhere places pages m index holds at bytes none fits =
    holds_after (known_in places pages) (known_in places pages) m (with_bytes m at bytes) holds (λ w. elim (cases_eq (w / 1024) (at / 4096)) [
      | inl same ↦ inl (none_known places pages index w (ap (λ n. get_or places n 0) same ∙ none))
      | inr differs ↦ inr (refl, loads_stay m at bytes w (apart w at (length bytes) differs fits))
    ])

-- or its words are forgotten
pub holds_forgotten : (places : List ℕ) (pages : Pages) (m : Memory) → IsIndex places pages → Holds (known_in places pages) m →
    (at count : ℕ) (bytes : List ℕ) (place : ℕ) (p : Page) → 0 < place → place ≡ get_or places (at / 4096) 0 → place < length pages →
    length bytes ≤ count → at % 4096 + count ≤ 4096 → AreForgotten (at % 4096 / 4) ((at % 4096 + count + 3) / 4) (page_at pages place).1 p.1 →
    Holds (known_in places (set pages place p)) (with_bytes m at bytes)
holds_forgotten places pages m index holds at count bytes place p some is inside few fits forgotten =
    holds_after (known_in places pages) (known_in places (set pages place p)) m (with_bytes m at bytes) holds (λ w. elim (cases_eq (get_or places (w / 1024) 0) place) [
      | inl here ↦
          let page : w / 1024 ≡ at / 4096 = same_page places pages index (w / 1024) (at / 4096) (omega (arith, here, some)) (here ∙ is) in
          let new = known_here places pages place p w inside here in
          let back = ap (λ k. get_or (page_at pages k).1 (w % 1024) None) (sym here) in
          elim (cases_lt (w % 1024) (at % 4096 / 4)) [
            | inl low ↦ inr (new ∙ forgotten.rest (w % 1024) (inl low) ∙ back, loads_stay m at bytes w (inl (omega (arith, page, low))))
            | inr from ↦ elim (cases_lt (w % 1024) ((at % 4096 + count + 3) / 4)) [
              | inl high ↦ inl (new ∙ forgotten.gone (w % 1024) from high)
              | inr past ↦ inr (new ∙ forgotten.rest (w % 1024) (inr past) ∙ back, loads_stay m at bytes w (inr (omega (arith, page, past, few))))
            ]
          ]
      | inr there ↦
          inr (known_there places pages place p w there, loads_stay m at bytes w (apart w at (length bytes) (λ same. there (ap (λ n. get_or places n 0) same ∙ sym is)) (omega (arith, few, fits))))
    ])

-- a place that an index gives is within the pages
pub inside : (places : List ℕ) (pages : Pages) → IsIndex places pages → (number : ℕ) → get_or places number 0 < length pages
inside places pages index number = elim (cases_lt 0 (get_or places number 0)) [
  | inl some ↦ index.placed number some
  | inr none ↦ omega (arith, none, index.first)
]

-- ---- an index that gives the same places
pub index_same : (old new : List ℕ) (pages : Pages) → ((number : ℕ) → get_or new number 0 ≡ get_or old number 0) → IsIndex old pages → IsIndex new pages
index_same old new pages same index = record {
  first = index.first;
  blank = index.blank;
  placed = λ n h. omega (arith, same n, index.placed n (omega (arith, same n, h)));
  numbered = λ n h. ap (λ k. (page_at pages k).0) (same n) ∙ index.numbered n (omega (arith, same n, h));
  indexed = λ k h low. same (page_at pages k).0 ∙ index.indexed k h low;
}

-- ---- the first pages: that of no page, of which nothing is known
pub blank_page : (n word : ℕ) → get_or (replicate n (let none : Option Instr = None in none)) word None ≡ None
blank_page n word = elim (cases_lt word n) [
  | inl low ↦ get_or-replicate n word None None low
  | inr past ↦ let none : Option Instr = None in let size : length (replicate n none) ≡ n = length-replicate n none in get_or_past (replicate n none) word None (omega (arith, size, past))
]

pub new_index : (number : ℕ) → IsIndex [] ((number, replicate 1024 None) ∷ [])
new_index number = record {
  first = omega arith;
  blank = λ word. blank_page 1024 word;
  placed = λ n h. absurd (omega (arith, h));
  numbered = λ n h. absurd (omega (arith, h));
  indexed = λ k h low. absurd (omega (arith, h, low));
}

-- ---- a page with code is added
abbrev pub added : Pages → ℕ → Pages
added pages page = pages ++ (page, replicate 1024 None) ∷ []

added_before : (pages : Pages) (page k : ℕ) → k < length pages → page_at (added pages page) k ≡ page_at pages k
added_before pages page k low = get_or_append_left pages ((page, replicate 1024 None) ∷ []) no_code k low

added_last : (pages : Pages) (page : ℕ) → page_at (added pages page) (length pages) ≡ (page, replicate 1024 None)
added_last pages page = get_or_push pages (page, replicate 1024 None) no_code (length pages) refl

pub known_added : (places : List ℕ) (pages : Pages) (page : ℕ) → IsIndex places pages → page < length places → get_or places page 0 ≡ 0 → (word : ℕ) →
    known_in (set places page (length pages)) (added pages page) word ≡ known_in places pages word
known_added places pages page index low none word = elim (cases_eq (word / 1024) page) [
  | inl same ↦
      ap (λ k. get_or (page_at (added pages page) k).1 (word % 1024) None) (ap (λ k. get_or (set places page (length pages)) k 0) same ∙ get_or-set_same places page (length pages) 0 low)
      ∙ ap (λ (q : Page). get_or q.1 (word % 1024) None) (added_last pages page) ∙ blank_page 1024 (word % 1024)
      ∙ sym (none_known places pages index word (ap (λ n. get_or places n 0) same ∙ none))
  | inr differs ↦
      ap (λ k. get_or (page_at (added pages page) k).1 (word % 1024) None) (get_or-set_other places page (word / 1024) (length pages) 0 differs)
      ∙ ap (λ (q : Page). get_or q.1 (word % 1024) None) (added_before pages page (get_or places (word / 1024) 0) (inside places pages index (word / 1024)))
]
