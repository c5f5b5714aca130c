-- Pages as a struct keeps them, and as contracts see them.
use Rattle.std.proofs.Common.{◌≡◌, ℕ, ◌<◌, List, [], length, map, get_or, take, drop, ◌+◌, ap, sym, ◌∙◌, All}
use Rattle.std.proofs.lemmas.List.{get_or-map, length-map, take-map, drop-map, get_or-take, get_or-drop}
use Rattle.shadow_pages.specs.Pages.{IsFull, Page, page_at}

-- the pages kept, each with a number and stamps
module _ {X : Type 0} (number : X → ℕ) (stamps : X → List ℕ) where
  abbrev pub seen : X → Page
  seen x = record { number = number x; stamps = stamps x }

  pub page_read : (pages : List Page) (items : List X) (i : ℕ) (x : X) → map seen items ≡ pages → i < length pages → x ≡ get_or items i x → page_at pages i ≡ seen x
  page_read pages items i x are within read =
      let inside : i < length items = rw (← are, length-map) at within in
      ap (λ ps. page_at ps i) (sym are) ∙ get_or-map seen items i x (record { number = 0; stamps = [] }) inside ∙ ap seen (sym read)

pub full_page : (pages : List Page) (i : ℕ) → All IsFull pages → i < length pages → length (page_at pages i).stamps ≡ 1024
full_page pages i full within = full i (record { number = 0; stamps = [] }) within

-- a part of a list that is seen by numbers
pub part_read : {X : Type 0} (f : X → ℕ) (xs : List X) (a n k : ℕ) → k < n → get_or (map f (take n (drop a xs))) k 0 ≡ get_or (map f xs) (a + k) 0
part_read f xs a n k lt =
    ap (λ ys. get_or ys k 0) (sym (take-map f n (drop a xs)) ∙ ap (λ ys. take n ys) (sym (drop-map f a xs)))
    ∙ get_or-take n (drop a (map f xs)) k 0 lt
    ∙ get_or-drop a (map f xs) k 0
