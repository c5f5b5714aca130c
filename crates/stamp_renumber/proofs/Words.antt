-- The new stamps of rows, of pages and of words.
use Rattle.std.proofs.Common.{◌≡◌, ◌==◌, ℕ, zero, suc, ◌+◌, ◌*◌, ◌/◌, ◌%◌, ◌<◌, ◌≤◌, Bool, true, false, cond, List, [], ◌∷◌, ◌++◌, length, map, get_or, set, take, drop, Option, Some, None, refl, sym, ap, ap₂, ◌∙◌, subst, arith, All}
use Rattle.std.specs.Prelude.{slice_index}
use Rattle.std.specs.Option.{is_some, option_map}
use Rattle.std.proofs.lemmas.Bool.{eqb-true}
use Rattle.std.proofs.lemmas.Bool.Decides.{nat_tests}
use Rattle.std.proofs.lemmas.List.{append-nil, drop_all, take_all, get_or_default, get_or-replicate, length-replicate}
use Rattle.std.proofs.lemmas.List.Edits.{map_over_more}
use Rattle.std.proofs.lemmas.List.Elements.{All-same, All-map, All-head, All-tail}
use Rattle.std.proofs.lemmas.List.FromFn.{fill_by_all, get_or-map-range_with_len, length-map-range_with_len}
use Rattle.stamp_lanes.specs.Plain.{renewals, renewed}
use Rattle.shadow_pages.specs.Pages.{IsFull, Page, covers, page_at, page_of, refilled, stamp_at, stamp_in, zeros}
use Rattle.stamp_renumber.specs.Classes.{class, new_access, new_write}
use Rattle.stamp_renumber.specs.Private.Rows.{new_accesses, renewed_accesses, renewed_writes, writes_of}
use Rattle.stamp_renumber.proofs.Order.{class-le-length}

-- the page of a number is one of them, and has it
pub record IsPageOf (P : Page → Type 0) (n : ℕ) (p : Page) : Type 0 where
  pub holds : P p
  pub number : p.number ≡ n

found_page : (P : Page → Type 0) (pages : List Page) (n : ℕ) (p : Page) → All P pages → page_of pages n ≡ Some p → IsPageOf P n p
found_page P [] n p all found = absurd (cc)
found_page P (q ∷ pages) n p all found = by (q.number == n) refl found (λ later. found_page P pages n p (All-tail P q pages all) later)
  where
    by : (b : Bool) → (q.number == n) ≡ b → cond b (Some q) (page_of pages n) ≡ Some p → (page_of pages n ≡ Some p → IsPageOf P n p) → IsPageOf P n p
    by true is here later =
        let same : q ≡ p = cc in
        subst (IsPageOf P n) same (record { holds = All-head P q pages all; number = eqb-true q.number n is })
    by false is here later = later here

-- as many stamps as before replace all of them
pub refilled_same : (old new : List ℕ) → length new ≡ length old → refilled old new ≡ new
refilled_same old new e =
    ap (λ rest. take (length old) (new ++ rest)) (drop_all (length new) old (omega (arith, e)))
    ∙ ap (λ xs. take (length old) xs) (append-nil new)
    ∙ take_all (length old) new (omega (arith, e))

pub zeros_long : length zeros ≡ 1024
unfolding zeros
zeros_long = length-replicate {A = ℕ} 1024 0

zero_at : (k : ℕ) → k < 1024 → slice_index zeros k ≡ 0
unfolding zeros
zero_at k lt = get_or-replicate {A = ℕ} 1024 k 0 0 lt

-- three stamps for each class fit
pub class_room : (starts own row : List ℕ) (n top : ℕ) → row ≡ map (class starts) own → length starts ≡ n → 3 * n + 2 ≤ top → All (λ k. 3 * k + 2 ≤ top) row
class_room starts own row n top is long room =
    All-same (λ k. 3 * k + 2 ≤ top) row (map (class starts) own) is
    (All-map (λ k. 3 * k + 2 ≤ top) (class starts) own (λ k d lt. let few = class-le-length starts (get_or own k d) in omega arith))

-- a stamp against itself
itself : (x k : ℕ) → renewed (record { own = x; own_class = k; write = x; write_class = k }) ≡ cond (x == 0) 0 (3 * k + 1)
itself x k = grind (arith, nat_tests)

pub own_renewed : (starts own : List ℕ) → map renewed (renewals own (map (class starts) own) own (map (class starts) own)) ≡ map (new_write starts) own
own_renewed starts [] = refl
own_renewed starts (x ∷ own) = ap₂ (λ (y : ℕ) (ys : List ℕ). y ∷ ys) (itself x (class starts x)) (own_renewed starts own)

-- ---- a row of write stamps
pub written_row : (writes : List Page) (number first : ℕ) (row : List ℕ) → first ≡ 1024 * number → length row ≡ 1024 → ((k : ℕ) → k < 1024 → slice_index row k ≡ stamp_at writes (first + k)) → row ≡ writes_of writes number
written_row writes number first row is long stamps =
    fill_by_all (λ k. stamp_at writes (1024 * number + k)) row 1024 0 long (λ k lt. stamps k lt ∙ ap (λ n. stamp_at writes (n + k)) is)

pub unwritten_row : (writes : List Page) (number first : ℕ) → first ≡ 1024 * number → covers writes first ≡ false → zeros ≡ writes_of writes number
unwritten_row writes number first is none =
    fill_by_all (λ k. stamp_at writes (1024 * number + k)) zeros 1024 0 zeros_long (λ k lt. zero_at k lt ∙ by k (page_of writes ((1024 * number + k) / 1024)) (
    let here : (1024 * number + k) / 1024 ≡ first / 1024 = omega arith in
    ap (λ n. is_some (page_of writes n)) here ∙ none
    ))
  where
    by : (k : ℕ) (o : Option Page) → is_some o ≡ false → 0 ≡ stamp_in o ((1024 * number + k) % 1024)
    by k None none = refl
    by k (Some p) none = absurd (cc)

-- ---- a page with its new stamps
pub page_of-map : (f : Page → Page) (same : (p : Page) → (f p).number ≡ p.number) (pages : List Page) (n : ℕ) → page_of (map f pages) n ≡ option_map f (page_of pages n)
page_of-map f same [] n = refl
page_of-map f same (p ∷ pages) n =
    ap (λ m. cond (m == n) (Some (f p)) (page_of (map f pages) n)) (same p) ∙ by (p.number == n) (page_of-map f same pages n)
  where
    by : (b : Bool) → page_of (map f pages) n ≡ option_map f (page_of pages n) → cond b (Some (f p)) (page_of (map f pages) n) ≡ option_map f (cond b (Some p) (page_of pages n))
    by true later = refl
    by false later = later

pub covers-map : (f : Page → Page) (same : (p : Page) → (f p).number ≡ p.number) (pages : List Page) (w : ℕ) → covers (map f pages) w ≡ covers pages w
covers-map f same pages w = ap is_some (page_of-map f same pages (w / 1024)) ∙ by (page_of pages (w / 1024))
  where
    by : (o : Option Page) → is_some (option_map f o) ≡ is_some o
    by None = refl
    by (Some p) = refl

renewal_at : (starts own write : List ℕ) (k : ℕ) → k < length own → length write ≡ length own → slice_index (new_accesses starts own write) k ≡ new_access starts (slice_index own k) (slice_index write k)
renewal_at starts [] write k lt long = absurd (omega (arith, lt))
renewal_at starts (o ∷ own) [] k lt long = absurd (omega (arith, long))
renewal_at starts (o ∷ own) (w ∷ write) zero lt long = refl
renewal_at starts (o ∷ own) (w ∷ write) (suc k) lt long = renewal_at starts own write k (omega (arith, lt)) (omega (arith, long))

pub renewed_word : (starts : List ℕ) (writes pages : List Page) (w : ℕ) → All IsFull pages → stamp_at (map (renewed_accesses starts writes) pages) w ≡ new_access starts (stamp_at pages w) (stamp_at writes w)
renewed_word starts writes pages w full =
    ap (λ o. stamp_in o (w % 1024)) (page_of-map (renewed_accesses starts writes) (λ p. refl) pages (w / 1024)) ∙ by (page_of pages (w / 1024)) refl
  where
    by : (o : Option Page) → page_of pages (w / 1024) ≡ o → stamp_in (option_map (renewed_accesses starts writes) o) (w % 1024) ≡ new_access starts (stamp_in o (w % 1024)) (stamp_at writes w)
    by None is = refl
    by (Some p) is =
        let s : IsPageOf IsFull (w / 1024) p = found_page IsFull pages (w / 1024) p full is in
        let long : length p.stamps ≡ 1024 = s.holds in
        let size : length (writes_of writes p.number) ≡ 1024 = length-map-range_with_len (λ i. stamp_at writes (1024 * p.number + i)) 0 1024 in
        let inside : w % 1024 < 1024 = omega arith in
        let number = s.number in
        let whole : 1024 * p.number + w % 1024 ≡ w = omega arith in
        renewal_at starts p.stamps (writes_of writes p.number) (w % 1024) (omega arith) (size ∙ sym long)
        ∙ ap (λ s. new_access starts (slice_index p.stamps (w % 1024)) s) (get_or-map-range_with_len (λ i. stamp_at writes (1024 * p.number + i)) 0 1024 (w % 1024) (w % 1024) 0 inside (omega arith) ∙ ap (stamp_at writes) whole)

write_at : (starts xs : List ℕ) (k : ℕ) → slice_index (map (new_write starts) xs) k ≡ new_write starts (slice_index xs k)
write_at starts [] k = refl
write_at starts (x ∷ xs) zero = refl
write_at starts (x ∷ xs) (suc k) = write_at starts xs k

pub rewritten_word : (starts : List ℕ) (pages : List Page) (w : ℕ) → stamp_at (map (renewed_writes starts) pages) w ≡ new_write starts (stamp_at pages w)
rewritten_word starts pages w =
    ap (λ o. stamp_in o (w % 1024)) (page_of-map (renewed_writes starts) (λ p. refl) pages (w / 1024)) ∙ by (page_of pages (w / 1024))
  where
    by : (o : Option Page) → stamp_in (option_map (renewed_writes starts) o) (w % 1024) ≡ new_write starts (stamp_in o (w % 1024))
    by None = refl
    by (Some p) = write_at starts p.stamps (w % 1024)

-- ---- one page more
pub page_more : (f : Page → Page) (old now : List Page) (i : ℕ) → i < length old → now ≡ map f (take i old) ++ drop i old → length now ≡ length old → set now i (f (page_at now i)) ≡ map f (take (i + 1) old) ++ drop (i + 1) old
page_more f old now i lt are long = map_over_more f old now i (page_at now i) lt are (get_or_default now i _ (page_at now i) (omega (arith, lt, long)))

-- all pages
pub all_pages : (f : Page → Page) (old now : List Page) (i : ℕ) → length old ≤ i → now ≡ map f (take i old) ++ drop i old → now ≡ map f old
all_pages f old now i end are =
    are ∙ ap₂ (λ (a b : List Page). map f a ++ b) (take_all i old end) (drop_all i old end) ∙ append-nil (map f old)
