-- Pages that come to those that are there.
use Rattle.std.proofs.Common.{◌≡◌, ◌≢◌, ◌==◌, ℕ, zero, suc, ◌+◌, ◌<◌, ◌≤◌, ◌/◌, ◌%◌, ◌^◌, Bool, true, false, cond, List, [], ◌∷◌, ◌++◌, length, get_or, replicate, Option, Some, None, refl, ap, sym, ◌∙◌, subst, arith, All, inl, inr}
use Rattle.std.specs.Option.{is_some}
use Rattle.std.proofs.lemmas.Bool.{cases_eq, cases_lt}
use Rattle.std.proofs.lemmas.List.{get_or_append_left, get_or_push, get_or_past, get_or-replicate, length-append, length-replicate, append_assoc}
use Rattle.std.proofs.lemmas.List.Elements.{All-append, All-push}
use Rattle.std.proofs.lemmas.Option.{none-some, same_Some}
use Rattle.shadow_pages.specs.Directory.{HasTable, HaveTables, entry}
use Rattle.shadow_pages.specs.Pages.{AreCovered, AreDistinct, AreFresh, AreKept, HasWord, HaveAll, IsFull, IsIndexed, IsLow, IsReserved, Page, page_at, page_of, stamp_at, stamp_in, zeros}
use Rattle.shadow_pages.proofs.Directories.{placed}
use Rattle.shadow_pages.proofs.Lookups.{same_test, page_of_none, stands}

abbrev no_page : Page
no_page = record { number = 0; stamps = [] }

-- ---- what is found in two lists
pub left_found : (xs ys : List Page) (n : ℕ) (p : Page) → page_of xs n ≡ Some p → page_of (xs ++ ys) n ≡ Some p
left_found [] ys n p found = absurd (none-some p found)
left_found (x ∷ xs) ys n p found = by (x.number == n) found (λ later. left_found xs ys n p later)
  where
    by : (b : Bool) → cond b (Some x) (page_of xs n) ≡ Some p → (page_of xs n ≡ Some p → page_of (xs ++ ys) n ≡ Some p) → cond b (Some x) (page_of (xs ++ ys) n) ≡ Some p
    by true here later = here
    by false here later = later here

pub right_found : (xs ys : List Page) (n : ℕ) → page_of xs n ≡ None → page_of (xs ++ ys) n ≡ page_of ys n
right_found [] ys n none = refl
right_found (x ∷ xs) ys n none = by (x.number == n) none (λ later. right_found xs ys n later)
  where
    by : (b : Bool) → cond b (Some x) (page_of xs n) ≡ None → (page_of xs n ≡ None → page_of (xs ++ ys) n ≡ page_of ys n) → cond b (Some x) (page_of (xs ++ ys) n) ≡ page_of ys n
    by true here later = absurd (none-some x (sym here))
    by false here later = later here

some_of : (o : Option Page) → is_some o ≡ true → (p : Page) × (o ≡ Some p)
some_of None bad = absurd (cc)
some_of (Some p) good = (p, refl)

pub left_has : (xs ys : List Page) (n : ℕ) → is_some (page_of xs n) ≡ true → is_some (page_of (xs ++ ys) n) ≡ true
left_has xs ys n has = let p = some_of (page_of xs n) has in ap is_some (left_found xs ys n p.0 p.1)

-- a page that stands at a place is found
pub number_found : (pages : List Page) (n i : ℕ) → i < length pages → (page_at pages i).number ≡ n → is_some (page_of pages n) ≡ true
number_found [] n i within is = absurd (omega (arith, within))
number_found (p ∷ pages) n zero within is = ap (λ b. is_some (cond b (Some p) (page_of pages n))) (same_test p.number n is)
number_found (p ∷ pages) n (suc i) within is = by (p.number == n) (number_found pages n i (omega (arith, within)) is)
  where
    by : (b : Bool) → is_some (page_of pages n) ≡ true → is_some (cond b (Some p) (page_of pages n)) ≡ true
    by true later = refl
    by false later = later

pub none_at : (pages : List Page) (n i : ℕ) → page_of pages n ≡ None → i < length pages → (page_at pages i).number ≢ n
none_at pages n i none within is = let has = number_found pages n i within is in let bad : is_some (page_of pages n) ≡ false = ap is_some none in cc

pub page_in_front : (xs ys : List Page) (i : ℕ) → i < length xs → page_at (xs ++ ys) i ≡ page_at xs i
page_in_front xs ys i lt = get_or_append_left xs ys no_page i lt

distinct_push : (pages : List Page) (q : Page) → AreDistinct pages → ((i : ℕ) → i < length pages → (page_at pages i).number ≢ q.number) → AreDistinct (pages ++ q ∷ [])
distinct_push pages q old new i j lt within =
    let long = length-append pages (q ∷ []) in
    let low : i < length pages = omega (arith, lt, within, long) in
    elim (cases_lt j (length pages)) [
      | inl inside ↦ λ e. old i j lt inside (ap (λ p. p.number) (sym (page_in_front pages (q ∷ []) i low)) ∙ e ∙ ap (λ p. p.number) (page_in_front pages (q ∷ []) j inside))
      | inr last ↦
          let at : length pages ≡ j = omega (arith, last, within, long) in
          λ e. new i low (ap (λ p. p.number) (sym (page_in_front pages (q ∷ []) i low)) ∙ e ∙ ap (λ p. p.number) (get_or_push pages q no_page j at))
    ]

-- ---- the pages of a range, number by number
pub fresh_kept : (old fresh : List Page) (low n : ℕ) → AreFresh old fresh low n → is_some (page_of old n) ≡ true → AreFresh old fresh low (n + 1)
fresh_kept old fresh low n h has = record {
  zero = h.zero;
  inside = λ k d lt. let at = h.inside k d lt in (at.0, omega (arith, at.1));
  absent = h.absent;
  distinct = h.distinct;
  covered = λ m from to. elim (cases_eq m n) [
    | inl is ↦ left_has old fresh m (ap (λ k. is_some (page_of old k)) is ∙ has)
    | inr differs ↦ h.covered m from (omega (arith, to, differs))
  ];
}

pub fresh_more : (old fresh : List Page) (low n : ℕ) (q : Page) → AreFresh old fresh low n → low ≤ n → page_of old n ≡ None → q.number ≡ n → q.stamps ≡ zeros → AreFresh old (fresh ++ q ∷ []) low (n + 1)
fresh_more old fresh low n q h le none is blank =
    let nowhere : page_of (old ++ fresh) n ≡ None = right_found old fresh n none ∙ page_of_none fresh n (λ i lt e. let at = h.inside i no_page lt in omega (arith, e, at.1)) in
    record {
      zero = All-push (λ (p : Page). p.stamps ≡ zeros) fresh q h.zero blank;
      inside = All-push (λ (p : Page). (low ≤ p.number) × (p.number < n + 1)) fresh q (λ k d lt. let at = h.inside k d lt in (at.0, omega (arith, at.1))) (omega (arith, is, le), omega (arith, is));
      absent = All-push (λ (p : Page). page_of old p.number ≡ None) fresh q h.absent (ap (λ m. page_of old m) is ∙ none);
      distinct = subst AreDistinct (append_assoc old fresh (q ∷ [])) (distinct_push (old ++ fresh) q h.distinct (λ i lt e. none_at (old ++ fresh) n i nowhere lt (e ∙ is)));
      covered = λ m from to. subst (λ ps. is_some (page_of ps m) ≡ true) (append_assoc old fresh (q ∷ [])) (elim (cases_eq m n) [
        | inl same ↦
            ap (λ k. is_some (page_of ((old ++ fresh) ++ q ∷ []) k)) same
            ∙ ap is_some (right_found (old ++ fresh) (q ∷ []) n nowhere)
            ∙ ap (λ b. is_some (cond b (Some q) None)) (same_test q.number n is)
        | inr differs ↦ left_has (old ++ fresh) (q ∷ []) m (h.covered m from (omega (arith, to, differs)))
      ]);
    }

-- nothing comes where each number has its page
pub none_fresh : (old fresh : List Page) (low end : ℕ) → AreFresh old fresh low end → HaveAll old low end → length fresh ≡ 0
none_fresh old [] low end h all = refl
none_fresh old (q ∷ fresh) low end h all =
    let at = h.inside 0 no_page (omega arith) in
    let none = h.absent 0 no_page (omega arith) in
    let has = all q.number at.0 at.1 in
    let bad : is_some (page_of old q.number) ≡ false = ap is_some none in
    absurd (cc)

-- ---- the directory
pub indexed_more : (d e : List (List (Option ℕ))) (pages : List Page) (k : ℕ) → IsIndexed d pages k → AreDistinct pages → k < length pages → entry e (page_at pages k).number ≡ Some k → ((n : ℕ) → n ≢ (page_at pages k).number → entry e n ≡ entry d n) → IsIndexed e pages (k + 1)
indexed_more d e pages k h distinct within this others = record {
  said = λ i lt. elim (cases_eq i k) [
    | inl is ↦ ap (λ j. entry e (page_at pages j).number) is ∙ this ∙ ap (λ (j : ℕ). Some j) (sym is)
    | inr differs ↦ let low : i < k = omega (arith, lt, differs) in others (page_at pages i).number (distinct i k low within) ∙ h.said i low
  ];
  held = λ n i says. elim (cases_eq n (page_at pages k).number) [
    | inl is ↦
        let same : k ≡ i = same_Some k i (sym this ∙ ap (λ m. entry e m) (sym is) ∙ says) in
        (omega (arith, same), ap (λ j. (page_at pages j).number) (sym same) ∙ sym is)
    | inr differs ↦ let held = h.held n i (sym (others n differs) ∙ says) in (omega (arith, held.0), held.1)
  ];
}

pub indexed_front : (d e : List (List (Option ℕ))) (old fresh : List Page) → IsIndexed d old (length old) → ((n : ℕ) → entry e n ≡ entry d n) → IsIndexed e (old ++ fresh) (length old)
indexed_front d e old fresh h same = record {
  said = λ i lt. same (page_at (old ++ fresh) i).number ∙ ap (λ (p : Page). entry d p.number) (page_in_front old fresh i lt) ∙ h.said i lt;
  held = λ n i says. let held = h.held n i (sym (same n) ∙ says) in (held.0, ap (λ (p : Page). p.number) (page_in_front old fresh i held.0) ∙ held.1);
}

pub kept_same : (d e : List (List (Option ℕ))) (pages : List Page) → AreKept d pages → ((n : ℕ) → entry e n ≡ entry d n) → AreKept e pages
kept_same d e pages h same = record {
  indexed = record {
    said = λ i lt. same (page_at pages i).number ∙ h.indexed.said i lt;
    held = λ n i says. h.indexed.held n i (sym (same n) ∙ says);
  };
  low = h.low;
  full = h.full;
}

pub all_tables : (d e : List (List (Option ℕ))) (old fresh : List Page) (low end : ℕ) → IsIndexed d old (length old) → ((n : ℕ) → entry e n ≡ entry d n) → AreFresh old fresh low end → HaveTables e low end → All (λ p. HasTable e p.number) (old ++ fresh)
all_tables d e old fresh low end h same new tables =
    All-append (λ (p : Page). HasTable e p.number) old fresh
    (λ k x lt. subst (λ (p : Page). HasTable e p.number) (at_any old k x lt) (placed e (page_at old k).number k (same (page_at old k).number ∙ h.said k lt)))
    (λ k x lt. let at = new.inside k x lt in tables (get_or fresh k x).number at.0 at.1)
  where
    at_any : (pages : List Page) (k : ℕ) (x : Page) → k < length pages → page_at pages k ≡ get_or pages k x
    at_any [] k x lt = absurd (omega (arith, lt))
    at_any (p ∷ pages) zero x lt = refl
    at_any (p ∷ pages) (suc k) x lt = at_any pages k x (omega (arith, lt))

length-zeros : length zeros ≡ 1024
unfolding zeros
length-zeros = length-replicate {A = ℕ} 1024 0

pub kept_more : (d e : List (List (Option ℕ))) (old fresh : List Page) (low end : ℕ) → AreKept d old → AreFresh old fresh low end → end ≤ 2 ^ 20 → IsIndexed e (old ++ fresh) (length (old ++ fresh)) → AreKept e (old ++ fresh)
kept_more d e old fresh low end h new le indexed = record {
  indexed = indexed;
  low = All-append IsLow old fresh h.low (λ k x lt. let at = new.inside k x lt in omega (arith, at.1, le));
  full = All-append IsFull old fresh h.full (λ k x lt. ap length (new.zero k x lt) ∙ length-zeros);
}

-- ---- what callers learn
pub reserved : (old fresh : List Page) (low end first count : ℕ) → AreFresh old fresh low end → ((w : ℕ) → first ≤ w → w < first + count → (low ≤ w / 1024) × (w / 1024 < end)) → ((n : ℕ) → low ≤ n → n < end → HasWord first count n) → IsReserved old (old ++ fresh) first count
reserved old fresh low end first count h holds meets = record {
  fresh = fresh;
  front = refl;
  zero = h.zero;
  meets = λ k x lt. let at = h.inside k x lt in meets (get_or fresh k x).number at.0 at.1;
  covered = λ w from to. let at = holds w from to in h.covered (w / 1024) at.0 at.1;
}

-- a word of zeros has the stamp 0
zero_at : (n k none : ℕ) → none ≡ 0 → get_or (replicate n none) k 0 ≡ 0
zero_at n k none is = elim (cases_lt k n) [
  | inl low ↦ get_or-replicate n k none 0 low ∙ is
  | inr past ↦ let size = length-replicate n none in let over : length (replicate n none) ≤ k = omega arith in get_or_past (replicate n none) k 0 over
]

zeros_at : (k : ℕ) → get_or zeros k 0 ≡ 0
unfolding zeros
zeros_at k = zero_at 1024 k 0 refl

zero_stamp : (fresh : List Page) (n i : ℕ) → All (λ p. p.stamps ≡ zeros) fresh → stamp_in (page_of fresh n) i ≡ 0
zero_stamp fresh n i blank = by (page_of fresh n) refl
  where
    by : (o : Option Page) → page_of fresh n ≡ o → stamp_in o i ≡ 0
    by None found = refl
    by (Some p) found =
        let at = stands fresh n p found in
        ap (λ xs. get_or xs i 0) (ap (λ (q : Page). q.stamps) (sym at.is) ∙ blank at.place no_page at.within) ∙ zeros_at i

pub stamps_kept : (old fresh : List Page) → All (λ p. p.stamps ≡ zeros) fresh → (w : ℕ) → stamp_at (old ++ fresh) w ≡ stamp_at old w
stamps_kept old fresh blank w = by (page_of old (w / 1024)) refl
  where
    by : (o : Option Page) → page_of old (w / 1024) ≡ o → stamp_at (old ++ fresh) w ≡ stamp_in o (w % 1024)
    by None found = ap (λ o. stamp_in o (w % 1024)) (right_found old fresh (w / 1024) found) ∙ zero_stamp fresh (w / 1024) (w % 1024) blank
    by (Some p) found = ap (λ o. stamp_in o (w % 1024)) (left_found old fresh (w / 1024) p found)

-- where all words are covered, each number has its page
pub have_all : (old : List Page) (low end first count : ℕ) → ((n : ℕ) → low ≤ n → n < end → HasWord first count n) → AreCovered old first count → HaveAll old low end
have_all old low end first count meets covered n from to = let at = meets n from to in ap (λ m. is_some (page_of old m)) (sym at.page) ∙ covered at.word at.low at.high
