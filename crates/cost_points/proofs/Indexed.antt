-- Where blocks begin among all items, and the item of an index.
use Rattle.std.proofs.Common.{◌≡◌, ℕ, zero, suc, ◌+◌, ◌<◌, ◌≤◌, inl, inr, List, [], ◌∷◌, ◌++◌, length, get_or, set, take, map, min, refl, sym, ap, ◌∙◌, subst, arith, length-append}
use Rattle.std.specs.Prelude.{slice_get, Some}
use Rattle.std.specs.List.{insert}
use Rattle.std.proofs.lemmas.Bool.{cases_lt}
use Rattle.std.proofs.lemmas.List.{get_or_append_left, get_or-append-add, get_or-map, get_or-take, get_or_default, length-map, length-set, length-take, set-get_or}
use Rattle.std.proofs.lemmas.List.Edits.{length-insert}
use Rattle.cost_points.specs.Joined.{IsFilled, joined}
use Rattle.cost_points.specs.Indexes.{AreIndexed, AreStarts}
use Rattle.cost_points.specs.Places.{IsGapOf, IsPlaceOf, before, behind, with_changed}
use Rattle.cost_points.specs.Private.Blocks.{IsIndexOf, IsItemAt, cut, with_item}
use Rattle.cost_points.specs.Keys.{IsRising, put}
use Rattle.cost_points.specs.Search.{IsAt}
use Rattle.cost_points.proofs.InBlocks.{filled_set, joined_at, nowhere, place_at, put_changed, put_new}
use Rattle.cost_points.proofs.Put.{keys_put}
use Rattle.cost_points.proofs.Rising.{IsRising-insert}
use Rattle.cost_points.proofs.Searched.{at_key, the_item}

module _ {A : Type 0} where
  before_suc : (bs : List (List A)) (b : ℕ) → b < length bs → length (before (suc b) bs) ≡ length (before b bs) + length (get_or bs b [])
  before_suc [] b inside = absurd (omega arith)
  before_suc (x ∷ bs) zero inside = omega (arith, length-append x [])
  before_suc (x ∷ bs) (suc b) inside =
      omega (arith, before_suc bs b (omega arith), length-append x (before (suc b) bs), length-append x (before b bs))

  pub before_next : (bs : List (List A)) (b : ℕ) → b < length bs → length (before (b + 1) bs) ≡ length (before b bs) + length (get_or bs b [])
  before_next bs b inside = let next : b + 1 ≡ suc b = omega arith in ap (λ n. length (before n bs)) next ∙ before_suc bs b inside

  pub before_le : (bs : List (List A)) (b : ℕ) → length (before b bs) ≤ length (joined bs)
  before_le [] zero = omega arith
  before_le [] (suc b) = omega arith
  before_le (x ∷ bs) zero = omega arith
  before_le (x ∷ bs) (suc b) = omega (arith, before_le bs b, length-append x (before b bs), length-append x (joined bs))

  before_all : (bs : List (List A)) (b : ℕ) → length bs ≤ b → length (before b bs) ≡ length (joined bs)
  before_all [] zero all = refl
  before_all [] (suc b) all = refl
  before_all (x ∷ bs) zero all = absurd (omega arith)
  before_all (x ∷ bs) (suc b) all = omega (arith, before_all bs b (omega arith), length-append x (before b bs), length-append x (joined bs))

  -- an index behind the items of a block is one of a later block
  pub goes_on : (bs : List (List A)) (b at i : ℕ) → b < length bs → length (before b bs) + at ≡ i → i < length (joined bs) → length (get_or bs b []) ≤ at → b + 1 < length bs
  goes_on bs b at i inside is below past = elim (cases_lt (b + 1) (length bs)) [
    | inl more ↦ more
    | inr last ↦ absurd (omega (arith, before_all bs (b + 1) last, before_next bs b inside, is, below, past))
  ]

  -- one more block is known
  pub starts_more : (bs : List (List A)) (starts : List ℕ) (b start : ℕ) → AreStarts bs starts → length starts ≡ b + 1 → b + 1 < length bs →
      start ≡ get_or starts b 0 + length (get_or bs b []) → AreStarts bs (starts ++ start ∷ [])
  starts_more bs starts b start are known more is = record {
    some = omega (arith, are.some, length-append starts (start ∷ []));
    inside = omega (arith, known, more, length-append starts (start ∷ []));
    each = λ k inside. elim (cases_lt k (length starts)) [
      | inl old ↦ get_or_append_left starts (start ∷ []) 0 k old ∙ are.each k old
      | inr new ↦
          let here : k ≡ length starts + 0 = omega (arith, new, inside, length-append starts (start ∷ [])) in
          let next : k ≡ b + 1 = omega (arith, here, known) in
          ap (λ n. get_or (starts ++ start ∷ []) n 0) here ∙ get_or-append-add starts (start ∷ []) 0 0 ∙ is
          ∙ ap (λ n. n + length (get_or bs b [])) (are.each b (omega (arith, known))) ∙ sym (before_next bs b (omega (arith, more)))
          ∙ ap (λ n. length (before n bs)) (sym next)
    ];
  }

  -- an item at its place
  pub item_at : (bs : List (List A)) (i b at : ℕ) (a : A) → IsIndexOf bs i b at → a ≡ get_or (get_or bs b []) at a → i < length (joined bs) × (a ≡ get_or (joined bs) i a)
  item_at bs i b at a place read =
      let items = get_or bs b [] in
      let long : length (before b bs ++ (items ++ behind b bs)) ≡ length (before b bs) + (length items + length (behind b bs)) =
      length-append (before b bs) (items ++ behind b bs) ∙ ap (λ n. length (before b bs) + n) (length-append items (behind b bs)) in (
        omega (arith, ap length (joined_at bs b place.block), long, place.index, place.inside),
        read ∙ sym (get_or_append_left items (behind b bs) a at place.inside) ∙ sym (get_or-append-add (before b bs) (items ++ behind b bs) at a)
            ∙ ap (λ n. get_or (before b bs ++ (items ++ behind b bs)) n a) place.index ∙ ap (λ ys. get_or ys i a) (sym (joined_at bs b place.block)),
      )

  -- ---- what a change of one block leaves
  pub before_cut : (n : ℕ) (bs : List (List A)) (b k : ℕ) → b < length bs → k ≤ b → before k (cut n b bs) ≡ before k bs
  before_cut n [] b k inside low = absurd (omega arith)
  before_cut n (x ∷ bs) zero zero inside low = refl
  before_cut n (x ∷ bs) zero (suc k) inside low = absurd (omega (arith, low))
  before_cut n (x ∷ bs) (suc b) zero inside low = refl
  before_cut n (x ∷ bs) (suc b) (suc k) inside low = ap (λ ys. x ++ ys) (before_cut n bs b k (omega arith) (omega (arith, low)))

  pub before_set : (bs : List (List A)) (b k : ℕ) (ys : List A) → k ≤ b → before k (set bs b ys) ≡ before k bs
  before_set [] b k ys low = refl
  before_set (x ∷ bs) zero zero ys low = refl
  before_set (x ∷ bs) zero (suc k) ys low = absurd (omega (arith, low))
  before_set (x ∷ bs) (suc b) zero ys low = refl
  before_set (x ∷ bs) (suc b) (suc k) ys low = ap (λ zs. x ++ zs) (before_set bs b k ys (omega (arith, low)))

  -- a block of as many items in the place of another
  before_same : (bs : List (List A)) (b k : ℕ) (ys : List A) → length ys ≡ length (get_or bs b []) → length (before k (set bs b ys)) ≡ length (before k bs)
  before_same [] b k ys same = refl
  before_same (x ∷ bs) zero zero ys same = refl
  before_same (x ∷ bs) zero (suc k) ys same = omega (arith, same, length-append ys (before k bs), length-append x (before k bs))
  before_same (x ∷ bs) (suc b) zero ys same = refl
  before_same (x ∷ bs) (suc b) (suc k) ys same =
      omega (arith, before_same bs b k ys same, length-append x (before k (set bs b ys)), length-append x (before k bs))

  joined_same : (bs : List (List A)) (b : ℕ) (ys : List A) → length ys ≡ length (get_or bs b []) → length (joined (set bs b ys)) ≡ length (joined bs)
  joined_same [] b ys same = refl
  joined_same (x ∷ bs) zero ys same = omega (arith, same, length-append ys (joined bs), length-append x (joined bs))
  joined_same (x ∷ bs) (suc b) ys same = omega (arith, joined_same bs b ys same, length-append x (joined (set bs b ys)), length-append x (joined bs))

  indexed_same : (bs : List (List A)) (count : ℕ) (starts : List ℕ) (b : ℕ) (ys : List A) → AreIndexed bs count starts → length ys ≡ length (get_or bs b []) →
      IsFilled (set bs b ys) → AreIndexed (set bs b ys) count starts
  indexed_same bs count starts b ys are same filled = record {
    filled = filled;
    all = are.all ∙ sym (joined_same bs b ys same);
    starts_are = record {
      some = are.starts_are.some;
      inside = omega (arith, are.starts_are.inside, length-set bs b ys);
      each = λ k inside. are.starts_are.each k inside ∙ sym (before_same bs b k ys same);
    };
  }

  -- another item at a place
  pub indexed_changed : (bs : List (List A)) (count : ℕ) (starts : List ℕ) (b at : ℕ) (a : A) → AreIndexed bs count starts → at < length (get_or bs b []) → AreIndexed (with_changed bs b at a) count starts
  indexed_changed bs count starts b at a are inside =
      let items = get_or bs b [] in
      let long : length (set (get_or bs b []) at a) ≡ length (get_or bs b []) = length-set items at a in
      indexed_same bs count starts b (set items at a) are long (filled_set bs b (set items at a) are.filled (omega (arith, long, inside)))

  changed_same : (bs : List (List A)) (b at : ℕ) (a : A) → a ≡ get_or (get_or bs b []) at a → with_changed bs b at a ≡ bs
  changed_same bs b at a read =
      ap (λ x. with_changed bs b at x) read ∙ ap (set bs b) (set-get_or (get_or bs b []) at a) ∙ set-get_or bs b []

  -- an item more keeps where the blocks begin, up to the one that takes it
  starts_kept : (bs cs : List (List A)) (starts : List ℕ) (b : ℕ) → AreStarts bs starts → b < length cs → ((k : ℕ) → k ≤ b → before k cs ≡ before k bs) → AreStarts cs (take (b + 1) starts)
  starts_kept bs cs starts b are inside same =
      let long : length (take (b + 1) starts) ≡ min (b + 1) (length starts) = length-take (b + 1) starts in
      record {
        some = omega (arith, long, are.some);
        inside = omega (arith, long, inside);
        each = λ k within.
            get_or-take (b + 1) starts k 0 (omega (arith, within, long)) ∙ are.each k (omega (arith, within, long))
            ∙ ap length (sym (same k (omega (arith, within, long))));
      }

  pub indexed_more : (bs cs : List (List A)) (count : ℕ) (starts : List ℕ) (b at : ℕ) (a : A) → AreIndexed bs count starts → b < length bs → at ≤ length (get_or bs b []) →
      IsFilled cs → b < length cs → ((k : ℕ) → k ≤ b → before k cs ≡ before k bs) → joined cs ≡ with_item bs b at a → AreIndexed cs (count + 1) (take (b + 1) starts)
  indexed_more bs cs count starts b at a are within place filled inside same made =
      let items = get_or bs b [] in
      let was : length (joined bs) ≡ length (before b bs) + (length items + length (behind b bs)) =
      ap length (joined_at bs b within) ∙ length-append (before b bs) (items ++ behind b bs) ∙ ap (λ n. length (before b bs) + n) (length-append items (behind b bs)) in
      let now : length (joined cs) ≡ length (before b bs) + (length (insert items at a) + length (behind b bs)) =
      ap length made ∙ length-append (before b bs) (insert items at a ++ behind b bs) ∙ ap (λ n. length (before b bs) + n) (length-append (insert items at a) (behind b bs)) in
      record {
        filled = filled;
        all = omega (arith, was, now, length-insert items at a place, are.all);
        starts_are = starts_kept bs cs starts b are.starts_are inside same;
      }

-- ---- by keys
-- the item that was found among all
pub found_at : {B : Type 0} (key : B → ℕ) (bs : List (List B)) (x b at : ℕ) (a : B) → IsPlaceOf key bs x b at → a ≡ get_or (get_or bs b []) at a →
    IsAt (map key (joined bs)) x (length (before b bs) + at) × (a ≡ get_or (joined bs) (length (before b bs) + at) a)
found_at key bs x b at a place read =
    let items = get_or bs b [] in
    let within : at < length (get_or bs b []) = omega (arith, place.here.in_range, length-map items key) in
    let all = item_at bs (length (before b bs) + at) b at a (record { block = place.block.inside; inside = within; index = refl }) read in
    let is : key a ≡ x = ap key read ∙ sym (get_or-map key items at a 0 within) ∙ place.here.here in (
      record {
        in_range = omega (arith, all.0, length-map (joined bs) key);
        here = get_or-map key (joined bs) (length (before b bs) + at) a 0 all.0 ∙ ap key (sym all.1) ∙ is;
      },
      all.1,
    )

-- what is done at the place where a search found a key, or where it would go
module _ {B : Type 0} (key : B → ℕ) (bs : List (List B)) (x y : ℕ) (named : x ≡ y) (b at : ℕ) where
  -- the key stands nowhere where it would go somewhere
  pub none_has : (i : ℕ) (r : B) → IsGapOf key bs x b at → slice_get (joined bs) i ≡ Some r → key r ≡ y → ⊥
  none_has i r gap there is = nowhere key bs x b at i gap (at_key key (joined bs) x i r there (is ∙ sym named))

  module _ (place : IsPlaceOf key bs x b at) (found : B) (read : found ≡ get_or (get_or bs b []) at found) where
    -- it is the one that has the key
    pub it_is : (i : ℕ) (r : B) → IsRising (map key (joined bs)) → slice_get (joined bs) i ≡ Some r → key r ≡ y → found ≡ r
    it_is i r up there is =
        let all = found_at key bs x b at found place read in
        the_item key (joined bs) x i (length (before b bs) + at) r found up there (is ∙ sym named) all.0 all.1

    -- it changes
    pub it_changes : (change : B → B) (new made : B) → IsRising (map key (joined bs)) → made ≡ change found → joined (with_changed bs b at made) ≡ put key y change new (joined bs)
    it_changes change new made up is =
        ap (λ a. joined (with_changed bs b at a)) is ∙ put_changed key x change new bs b at found up place read ∙ ap (λ k. put key k change new (joined bs)) named

-- an item that is there
pub there_already : {B : Type 0} (key : B → ℕ) (bs : List (List B)) (x y : ℕ) (named : x ≡ y) (b at : ℕ) (d : B) → IsRising (map key (joined bs)) → IsPlaceOf key bs x b at → joined bs ≡ put key y (λ a. a) d (joined bs)
there_already key bs x y named b at d up place =
    let found = get_or (get_or bs b []) at d in
    let read : get_or (get_or bs b []) at d ≡ get_or (get_or bs b []) at (get_or (get_or bs b []) at d) =
    get_or_default (get_or bs b []) at d found (omega (arith, place.here.in_range, length-map (get_or bs b []) key)) in
    sym (ap joined (changed_same bs b at found read)) ∙ it_changes key bs x y named b at place found read (λ a. a) d found up refl

-- an item more, and where it stands
pub more_at : {B : Type 0} (key : B → ℕ) (bs cs : List (List B)) (a : B) (b at p q : ℕ) → IsRising (map key (joined bs)) → IsGapOf key bs (key a) b at → joined cs ≡ with_item bs b at a → IsItemAt cs p q a → IsPlaceOf key cs (key a) p q
more_at key bs cs a b at p q up gap made stands =
    place_at key cs p q a (key a)
    (subst (λ ys. IsRising (map key ys)) (sym (made ∙ put_new key (key a) (λ x. x) a bs b at gap))
    (subst IsRising (sym (keys_put key (key a) (λ x. x) a refl (λ x. refl) (joined bs))) (IsRising-insert (key a) (map key (joined bs)) up)))
    stands.block stands.inside (ap key (stands.here a))
