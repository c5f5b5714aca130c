-- The stamps of one page changed.
use Rattle.std.proofs.Common.{◌≡◌, ◌≢◌, ◌==◌, ℕ, zero, suc, ◌<◌, ◌/◌, ◌%◌, Bool, true, false, cond, List, [], ◌∷◌, ◌++◌, length, map, get_or, set, take, drop, Option, Some, None, refl, ap, ap₂, sym, ◌∙◌, subst, arith, All, inl, inr}
use Rattle.std.specs.Option.{is_some, option_map}
use Rattle.std.proofs.lemmas.Bool.{cases_eq}
use Rattle.std.proofs.lemmas.List.{get_or-set_other, get_or-set_same, length-set, length-map, map-append, take-map, drop-map, take_all, drop_all, append-nil}
use Rattle.shadow_pages.specs.Directory.{entry}
use Rattle.shadow_pages.specs.Pages.{AreKept, IsFull, IsIndexed, IsLow, Page, changed, covers, page_at, page_of, refilled, stamp_at, stamp_in}
use Rattle.shadow_pages.proofs.Lookups.{same_test, other_test, stands}

abbrev no_page : Page
no_page = record { number = 0; stamps = [] }

-- another page at a place, with the number of the one before
module _ (pages : List Page) (i : ℕ) (q : Page) (within : i < length pages) (same : q.number ≡ (page_at pages i).number) where
  numbers_kept : (j : ℕ) → (page_at (set pages i q) j).number ≡ (page_at pages j).number
  numbers_kept j = elim (cases_eq j i) [
    | inl is ↦ ap (λ k. (page_at (set pages i q) k).number) is ∙ ap (λ p. p.number) (get_or-set_same pages i q no_page within) ∙ same ∙ ap (λ k. (page_at pages k).number) (sym is)
    | inr differs ↦ ap (λ p. p.number) (get_or-set_other pages i j q no_page differs)
  ]

  all_kept : (P : Page → Type 0) → P q → All P pages → All P (set pages i q)
  all_kept P new old = λ k d lt. let size = length-set pages i q in elim (cases_eq k i) [
    | inl is ↦ subst P (sym (ap (λ m. get_or (set pages i q) m d) is ∙ get_or-set_same pages i q d within)) new
    | inr differs ↦ subst P (sym (get_or-set_other pages i k q d differs)) (old k d (omega (arith, lt, size)))
  ]

  pub kept_with : (d : List (List (Option ℕ))) → AreKept d pages → length q.stamps ≡ 1024 → AreKept d (set pages i q)
  kept_with d kept long =
      let size = length-set pages i q in
      let low : IsLow (page_at pages i) = kept.low i no_page within in
      record {
        indexed = subst (λ n. IsIndexed d (set pages i q) n) (sym size) (record {
          said = λ j lt. ap (λ n. entry d n) (numbers_kept j) ∙ kept.indexed.said j lt;
          held = λ n j says. let held = kept.indexed.held n j says in (held.0, numbers_kept j ∙ held.1);
        });
        low = all_kept IsLow (omega (arith, same, low)) kept.low;
        full = all_kept IsFull long kept.full;
      }

-- no page has the number
changed_none : (pages : List Page) (n : ℕ) (change : List ℕ → List ℕ) → ((j : ℕ) → j < length pages → (page_at pages j).number ≢ n) → changed pages n change ≡ pages
changed_none [] n change none = refl
changed_none (p ∷ pages) n change none =
    ap₂ (λ (x : Page) (xs : List Page). x ∷ xs) (ap (λ b. cond b (record { number = p.number; stamps = change p.stamps }) p) (other_test p.number n (none 0 (omega arith)))) (changed_none pages n change (λ j lt. none (suc j) (omega (arith, lt))))

-- the one page of the number
pub changed_place : (pages : List Page) (n i : ℕ) (change : List ℕ → List ℕ) → i < length pages → (page_at pages i).number ≡ n → ((j : ℕ) → j < length pages → (page_at pages j).number ≡ n → j ≡ i)
    → changed pages n change ≡ set pages i (record { number = (page_at pages i).number; stamps = change (page_at pages i).stamps })
changed_place [] n i change within is one = absurd (omega (arith, within))
changed_place (p ∷ pages) n zero change within is one =
    ap₂ (λ (x : Page) (xs : List Page). x ∷ xs) (ap (λ b. cond b (record { number = p.number; stamps = change p.stamps }) p) (same_test p.number n is))
    (changed_none pages n change (λ j lt e. let at = one (suc j) (omega (arith, lt)) e in omega (arith, at)))
changed_place (p ∷ pages) n (suc i) change within is one =
    ap₂ (λ (x : Page) (xs : List Page). x ∷ xs) (ap (λ b. cond b (record { number = p.number; stamps = change p.stamps }) p) (other_test p.number n (λ e. let at = one 0 (omega arith) e in omega (arith, at))))
    (changed_place pages n i change (omega (arith, within)) is (λ j lt e. let at = one (suc j) (omega (arith, lt)) e in omega (arith, at)))

-- what is found after a change
number_same : (n : ℕ) (change : List ℕ → List ℕ) (p : Page) → (cond (p.number == n) (record { number = p.number; stamps = change p.stamps }) p).number ≡ p.number
number_same n change p = by (p.number == n)
  where
    by : (b : Bool) → (cond b (record { number = p.number; stamps = change p.stamps }) p).number ≡ p.number
    by true = refl
    by false = refl

page_of_changed : (pages : List Page) (n : ℕ) (change : List ℕ → List ℕ) (m : ℕ) → page_of (changed pages n change) m ≡ option_map (λ p. cond (p.number == n) (record { number = p.number; stamps = change p.stamps }) p) (page_of pages m)
page_of_changed [] n change m = refl
page_of_changed (p ∷ pages) n change m =
    let g : Page → Page = λ p. cond (p.number == n) (record { number = p.number; stamps = change p.stamps }) p in
    ap (λ k. cond (k == m) (Some (g p)) (page_of (changed pages n change) m)) (number_same n change p)
    ∙ by (p.number == m) (page_of_changed pages n change m)
  where
    by : (b : Bool) → page_of (changed pages n change) m ≡ option_map (λ p. cond (p.number == n) (record { number = p.number; stamps = change p.stamps }) p) (page_of pages m)
        → cond b (Some (cond (p.number == n) (record { number = p.number; stamps = change p.stamps }) p)) (page_of (changed pages n change) m)
        ≡ option_map (λ p. cond (p.number == n) (record { number = p.number; stamps = change p.stamps }) p) (cond b (Some p) (page_of pages m))
    by true later = refl
    by false later = later

pub covers_changed : (pages : List Page) (n : ℕ) (change : List ℕ → List ℕ) (w : ℕ) → covers (changed pages n change) w ≡ covers pages w
covers_changed pages n change w = ap is_some (page_of_changed pages n change (w / 1024)) ∙ by (page_of pages (w / 1024))
  where
    by : (o : Option Page) → is_some (option_map (λ p. cond (p.number == n) (record { number = p.number; stamps = change p.stamps }) p) o) ≡ is_some o
    by None = refl
    by (Some p) = refl

-- as many stamps as before
pub refilled_same : (old new : List ℕ) → length new ≡ length old → refilled old new ≡ new
refilled_same old new e =
    ap (λ rest. take (length old) (new ++ rest)) (drop_all (length new) old (omega (arith, e)))
    ∙ ap (λ xs. take (length old) xs) (append-nil new)
    ∙ take_all (length old) new (omega (arith, e))

pub refilled_map : {X : Type 0} (f : X → ℕ) (n : ℕ) (xs w : List X) → n ≡ length xs → map f (take n (w ++ drop (length w) xs)) ≡ refilled (map f xs) (map f w)
refilled_map f n xs w e =
    sym (take-map f n (w ++ drop (length w) xs))
    ∙ ap (λ ys. take n ys) (map-append f w (drop (length w) xs) ∙ ap (λ ys. map f w ++ ys) (sym (drop-map f (length w) xs)))
    ∙ ap₂ (λ (k l : ℕ). take k (map f w ++ drop l (map f xs))) (e ∙ sym (length-map xs f)) (sym (length-map w f))

-- the stamp of a word whose page is changed
pub stamp_changed : (pages : List Page) (n : ℕ) (change : List ℕ → List ℕ) (w : ℕ) (p : Page) → page_of pages (w / 1024) ≡ Some p → p.number ≡ n → stamp_at (changed pages n change) w ≡ get_or (change p.stamps) (w % 1024) 0
stamp_changed pages n change w p found is =
    ap (λ o. stamp_in o (w % 1024)) (page_of_changed pages n change (w / 1024) ∙ ap (λ o. option_map (λ q. cond (q.number == n) (record { number = q.number; stamps = change q.stamps }) q) o) found)
    ∙ ap (λ b. stamp_in (Some (cond b (record { number = p.number; stamps = change p.stamps }) p)) (w % 1024)) (same_test p.number n is)

-- and of a word of another page
pub stamp_unchanged : (pages : List Page) (n : ℕ) (change : List ℕ → List ℕ) (w : ℕ) → w / 1024 ≢ n → stamp_at (changed pages n change) w ≡ stamp_at pages w
stamp_unchanged pages n change w ne =
    ap (λ o. stamp_in o (w % 1024)) (page_of_changed pages n change (w / 1024))
    ∙ by (page_of pages (w / 1024)) (λ p found. let at = (stands pages (w / 1024) p found).number in other_test p.number n (λ e. ne (sym at ∙ e)))
  where
    by : (o : Option Page) → ((p : Page) → o ≡ Some p → (p.number == n) ≡ false) → stamp_in (option_map (λ q. cond (q.number == n) (record { number = q.number; stamps = change q.stamps }) q) o) (w % 1024) ≡ stamp_in o (w % 1024)
    by None apart = refl
    by (Some p) apart = ap (λ b. stamp_in (Some (cond b (record { number = p.number; stamps = change p.stamps }) p)) (w % 1024)) (apart p refl)

same_word : (v w : ℕ) → v / 1024 ≡ w / 1024 → v % 1024 ≡ w % 1024 → v ≡ w
same_word v w a b = omega arith

-- one stamp set
module _ (pages : List Page) (w s : ℕ) (p : Page) (found : page_of pages (w / 1024) ≡ Some p) (long : length p.stamps ≡ 1024) where
  pub set_this : stamp_at (changed pages (w / 1024) (λ old. set old (w % 1024) s)) w ≡ s
  set_this =
      stamp_changed pages (w / 1024) (λ old. set old (w % 1024) s) w p found (stands pages (w / 1024) p found).number
      ∙ get_or-set_same p.stamps (w % 1024) s 0 (omega (arith, long))

  pub set_others : (v : ℕ) → v ≢ w → stamp_at (changed pages (w / 1024) (λ old. set old (w % 1024) s)) v ≡ stamp_at pages v
  set_others v ne = elim (cases_eq (v / 1024) (w / 1024)) [
    | inl same ↦
        let here : page_of pages (v / 1024) ≡ Some p = ap (λ n. page_of pages n) same ∙ found in
        stamp_changed pages (w / 1024) (λ old. set old (w % 1024) s) v p here (stands pages (w / 1024) p found).number
        ∙ get_or-set_other p.stamps (w % 1024) (v % 1024) s 0 (λ e. ne (same_word v w same e))
        ∙ sym (ap (λ o. stamp_in o (v % 1024)) here)
    | inr differs ↦ stamp_unchanged pages (w / 1024) (λ old. set old (w % 1024) s) v differs
  ]
