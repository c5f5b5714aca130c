-- Items in blocks: where a key belongs, and what a change of one block makes of all items.
use Rattle.std.proofs.Common.{◌≡◌, ◌≢◌, ℕ, zero, suc, ◌+◌, ◌-◌, ◌<◌, ◌≤◌, List, [], ◌∷◌, ◌++◌, drop, get_or, inl, inr, length, map, refl, set, sym, take, ap, ◌∙◌, subst, arith, append_assoc, length-append}
use Rattle.std.specs.List.{All, insert}
use Rattle.std.proofs.lemmas.Bool.{cases_lt}
use Rattle.std.proofs.lemmas.List.{append-nil, drop_all, get_or_append_left, get_or-append-add, get_or_read, get_or-map, get_or-set_same, length-drop, length-map, length-set, length-take-le, map-append, map-set, set-get_or, take-append-drop, take_more}
use Rattle.std.proofs.lemmas.List.Edits.{get_or-insert_at, insert-append_left, insert-append_right, length-insert}
use Rattle.std.proofs.lemmas.List.Elements.{All-append, All-cons, All-map, All-nil, All-set, All-head, All-tail, All-weaker}
use Rattle.cost_points.specs.Joined.{IsFilled, joined}
use Rattle.cost_points.specs.Places.{IsBlockOf, IsGapOf, IsPlaceOf, before, behind, with_changed}
use Rattle.cost_points.specs.Private.Blocks.{IsBetween, IsItemAt, cut, with_item}
use Rattle.cost_points.specs.Keys.{IsRising, put}
use Rattle.cost_points.specs.Search.{IsAt}
use Rattle.cost_points.proofs.Put.{put_above, put_at, put_below, put_in, put_same}
use Rattle.cost_points.proofs.Rising.{IsRising-tail, order}
use Rattle.cost_points.proofs.Searched.{apart}

module _ {A : Type 0} where
  -- the items of all blocks, by those of one
  pub joined_at : (bs : List (List A)) (b : ℕ) → b < length bs → joined bs ≡ before b bs ++ (get_or bs b [] ++ behind b bs)
  joined_at [] b inside = absurd (omega arith)
  joined_at (x ∷ bs) zero inside = refl
  joined_at (x ∷ bs) (suc b) inside = ap (λ ys. x ++ ys) (joined_at bs b (omega arith)) ∙ sym (append_assoc x (before b bs) (get_or bs b [] ++ behind b bs))

  pub joined_set : (bs : List (List A)) (b : ℕ) (y : List A) → b < length bs → joined (set bs b y) ≡ before b bs ++ (y ++ behind b bs)
  joined_set [] b y inside = absurd (omega arith)
  joined_set (x ∷ bs) zero y inside = refl
  joined_set (x ∷ bs) (suc b) y inside = ap (λ ys. x ++ ys) (joined_set bs b y (omega arith)) ∙ sym (append_assoc x (before b bs) (y ++ behind b bs))

  joined_from : (bs : List (List A)) (b : ℕ) → b < length bs → joined (drop b bs) ≡ get_or bs b [] ++ behind b bs
  joined_from [] b inside = absurd (omega arith)
  joined_from (x ∷ bs) zero inside = refl
  joined_from (x ∷ bs) (suc b) inside = joined_from bs b (omega arith)

  -- ---- a block that is cut in two
  pub joined_cut : (n : ℕ) (bs : List (List A)) (b : ℕ) → b < length bs → joined (cut n b bs) ≡ joined bs
  joined_cut n [] b inside = absurd (omega arith)
  joined_cut n (x ∷ bs) zero inside = sym (append_assoc (take n x) (drop n x) (joined bs)) ∙ ap (λ ys. ys ++ joined bs) (take-append-drop n x)
  joined_cut n (x ∷ bs) (suc b) inside = ap (λ ys. x ++ ys) (joined_cut n bs b (omega arith))

  -- a place of a block that is not the first
  with_item-tail : (x : List A) (bs : List (List A)) (b at : ℕ) (a : A) → with_item (x ∷ bs) (suc b) at a ≡ x ++ with_item bs b at a
  with_item-tail x bs b at a = append_assoc x (before b bs) (insert (get_or bs b []) at a ++ behind b bs)

  pub with_item_low : (n : ℕ) (bs : List (List A)) (b at : ℕ) (a : A) → b < length bs → n ≤ length (get_or bs b []) → at ≤ n → with_item (cut n b bs) b at a ≡ with_item bs b at a
  with_item_low n [] b at a inside long low = absurd (omega arith)
  with_item_low n (x ∷ bs) zero at a inside long low =
      let half : length (take n x) ≡ n = length-take-le n x long in
      sym (append_assoc (insert (take n x) at a) (drop n x) (joined bs))
      ∙ ap (λ ys. ys ++ joined bs) (sym (insert-append_left (take n x) (drop n x) at a (omega (arith, half, low))) ∙ ap (λ ys. insert ys at a) (take-append-drop n x))
  with_item_low n (x ∷ bs) (suc b) at a inside long low =
      with_item-tail x (cut n b bs) b at a ∙ ap (λ ys. x ++ ys) (with_item_low n bs b at a (omega arith) long low) ∙ sym (with_item-tail x bs b at a)

  pub with_item_high : (n : ℕ) (bs : List (List A)) (b at : ℕ) (a : A) → b < length bs → n ≤ length (get_or bs b []) → n ≤ at → with_item (cut n b bs) (suc b) (at - n) a ≡ with_item bs b at a
  with_item_high n [] b at a inside long high = absurd (omega arith)
  with_item_high n (x ∷ bs) zero at a inside long high =
      let half : length (take n x) ≡ n = length-take-le n x long in
      ap (λ ys. ys ++ (insert (drop n x) (at - n) a ++ joined bs)) (append-nil (take n x))
      ∙ sym (append_assoc (take n x) (insert (drop n x) (at - n) a) (joined bs))
      ∙ ap (λ ys. ys ++ joined bs) (sym (insert-append_right (take n x) (drop n x) n at a half high) ∙ ap (λ ys. insert ys at a) (take-append-drop n x))
  with_item_high n (x ∷ bs) (suc b) at a inside long high =
      with_item-tail x (cut n b bs) (suc b) (at - n) a ∙ ap (λ ys. x ++ ys) (with_item_high n bs b at a (omega arith) long high) ∙ sym (with_item-tail x bs b at a)

  -- the two halves, and the blocks behind them
  pub lower_half : (n : ℕ) (bs : List (List A)) (b : ℕ) → b < length bs → get_or (cut n b bs) b [] ≡ take n (get_or bs b [])
  lower_half n [] b inside = absurd (omega arith)
  lower_half n (x ∷ bs) zero inside = refl
  lower_half n (x ∷ bs) (suc b) inside = lower_half n bs b (omega arith)

  pub upper_half : (n : ℕ) (bs : List (List A)) (b : ℕ) → b < length bs → get_or (cut n b bs) (suc b) [] ≡ drop n (get_or bs b [])
  upper_half n [] b inside = absurd (omega arith)
  upper_half n (x ∷ bs) zero inside = refl
  upper_half n (x ∷ bs) (suc b) inside = upper_half n bs b (omega arith)

  pub length-cut : (n : ℕ) (bs : List (List A)) (b : ℕ) → b < length bs → length (cut n b bs) ≡ suc (length bs)
  length-cut n [] b inside = absurd (omega arith)
  length-cut n (x ∷ bs) zero inside = refl
  length-cut n (x ∷ bs) (suc b) inside = ap suc (length-cut n bs b (omega arith))

  -- how it is made
  pub cut_by : (n : ℕ) (bs : List (List A)) (b : ℕ) → b < length bs → insert (set bs b (take n (get_or bs b []))) (suc b) (drop n (get_or bs b [])) ≡ cut n b bs
  cut_by n [] b inside = absurd (omega arith)
  cut_by n (x ∷ bs) zero inside = refl
  cut_by n (x ∷ bs) (suc b) inside = ap (λ ys. x ∷ ys) (cut_by n bs b (omega arith))

  -- ---- no empty block
  pub filled_at : (bs : List (List A)) (b : ℕ) → IsFilled bs → 0 < b → b < length bs → 1 ≤ length (get_or bs b [])
  filled_at [] b filled some inside = absurd (omega arith)
  filled_at (x ∷ bs) zero filled some inside = absurd (omega arith)
  filled_at (x ∷ bs) (suc b) filled some inside = filled.each b [] (omega arith)

  pub filled_set : (bs : List (List A)) (b : ℕ) (y : List A) → IsFilled bs → 1 ≤ length y → IsFilled (set bs b y)
  filled_set [] b y filled some = filled
  filled_set (x ∷ bs) zero y filled some = record { some = omega arith; each = filled.each }
  filled_set (x ∷ bs) (suc b) y filled some = record { some = omega arith; each = All-set (λ zs. 1 ≤ length zs) bs b y some filled.each }

  nonempty_cut : (n : ℕ) (bs : List (List A)) (b : ℕ) → b < length bs → 1 ≤ n → n < length (get_or bs b []) → All (λ zs. 1 ≤ length zs) bs → All (λ zs. 1 ≤ length zs) (cut n b bs)
  nonempty_cut n [] b inside some long all = absurd (omega arith)
  nonempty_cut n (x ∷ bs) zero inside some long all =
      let lower : length (take n x) ≡ n = length-take-le n x (omega (arith, long)) in
      let upper : length (drop n x) ≡ length x - n = length-drop n x in
      All-cons (λ zs. 1 ≤ length zs) (take n x) (drop n x ∷ bs) (omega (arith, lower, some))
      (All-cons (λ zs. 1 ≤ length zs) (drop n x) bs (omega (arith, upper, long)) (All-tail (λ zs. 1 ≤ length zs) x bs all))
  nonempty_cut n (x ∷ bs) (suc b) inside some long all =
      All-cons (λ zs. 1 ≤ length zs) x (cut n b bs) (All-head (λ zs. 1 ≤ length zs) x bs all) (nonempty_cut n bs b (omega arith) some long (All-tail (λ zs. 1 ≤ length zs) x bs all))

  pub filled_cut : (n : ℕ) (bs : List (List A)) (b : ℕ) → b < length bs → 1 ≤ n → n < length (get_or bs b []) → IsFilled bs → IsFilled (cut n b bs)
  filled_cut n [] b inside some long filled = absurd (omega arith)
  filled_cut n (x ∷ bs) zero inside some long filled =
      let upper : length (drop n x) ≡ length x - n = length-drop n x in
      record { some = omega arith; each = All-cons (λ zs. 1 ≤ length zs) (drop n x) bs (omega (arith, upper, long)) filled.each }
  filled_cut n (x ∷ bs) (suc b) inside some long filled = record { some = omega arith; each = nonempty_cut n bs b (omega arith) some long filled.each }

-- a block that is read
pub read_block : {V A : Type 0} (f : V → List A) (vs : List V) (b : ℕ) (v : V) → b < length vs → v ≡ get_or vs b v → f v ≡ get_or (map f vs) b []
read_block f vs b v inside read = ap f read ∙ sym (get_or-map f vs b v [] inside)

map-insert : {V W : Type 0} (f : V → W) (vs : List V) (i : ℕ) (v : V) → map f (insert vs i v) ≡ insert (map f vs) i (f v)
map-insert f [] zero v = refl
map-insert f [] (suc i) v = refl
map-insert f (w ∷ vs) zero v = refl
map-insert f (w ∷ vs) (suc i) v = ap (λ ys. f w ∷ ys) (map-insert f vs i v)

-- the key of the first item of a block
pub first_key : {V B : Type 0} (f : V → List B) (key : B → ℕ) (vs : List V) (b : ℕ) (v : V) (a d : B) → b < length vs → v ≡ get_or vs b v → 1 ≤ length (f v) → a ≡ get_or (f v) 0 a → key (get_or (get_or (map f vs) b []) 0 d) ≡ key a
first_key f key vs b v a d inside read some is =
    ap (λ ys. key (get_or ys 0 d)) (sym (read_block f vs b v inside read)) ∙ ap key (sym (get_or_read (f v) 0 a some is d))

joined-append : {A : Type 0} (bs cs : List (List A)) → joined (bs ++ cs) ≡ joined bs ++ joined cs
joined-append [] cs = refl
joined-append (b ∷ bs) cs = ap (λ ys. b ++ ys) (joined-append bs cs) ∙ sym (append_assoc b (joined bs) (joined cs))

-- the blocks up to one, and that one
pub joined_more : {V A : Type 0} (f : V → List A) (vs : List V) (i : ℕ) (v : V) → i < length vs → v ≡ get_or vs i v → joined (take (i + 1) (map f vs)) ≡ joined (take i (map f vs)) ++ f v
joined_more f vs i v inside read =
    ap joined (take_more (map f vs) i [] (omega (arith, inside, length-map vs f)))
    ∙ joined-append (take i (map f vs)) (get_or (map f vs) i [] ∷ [])
    ∙ ap (λ ys. joined (take i (map f vs)) ++ ys) (append-nil (get_or (map f vs) i []) ∙ sym (read_block f vs i v inside read))

-- a block that is cut in two, by the two halves
pub cut_made : {V A : Type 0} (f : V → List A) (vs : List V) (b n : ℕ) (w lower upper : V) → b < length vs → w ≡ get_or vs b w → f lower ≡ take n (f w) → f upper ≡ drop n (f w) →
    map f (insert (set vs b lower) (b + 1) upper) ≡ cut n b (map f vs)
cut_made f vs b n w lower upper inside read low high =
    let next : b + 1 ≡ suc b = omega arith in
    let is : f w ≡ get_or (map f vs) b [] = read_block f vs b w inside read in
    let within : b < length (map f vs) = omega (arith, inside, length-map vs f) in
    map-insert f (set vs b lower) (b + 1) upper
    ∙ ap (λ ys. insert ys (b + 1) (f upper)) (map-set f vs b lower)
    ∙ ap (λ ys. insert (set (map f vs) b ys) (b + 1) (f upper)) (low ∙ ap (take n) is)
    ∙ ap (λ ys. insert (set (map f vs) b (take n (get_or (map f vs) b []))) (b + 1) ys) (high ∙ ap (drop n) is)
    ∙ ap (λ i. insert (set (map f vs) b (take n (get_or (map f vs) b []))) i (drop n (get_or (map f vs) b []))) next
    ∙ cut_by n (map f vs) b within

-- a block that is as it was
pub set_same : {V A : Type 0} (f : V → List A) (vs : List V) (b : ℕ) (w v : V) → b < length vs → w ≡ get_or vs b w → f v ≡ f w → map f (set vs b v) ≡ map f vs
set_same f vs b w v inside read same =
    map-set f vs b v ∙ ap (set (map f vs) b) (same ∙ read_block f vs b w inside read) ∙ set-get_or (map f vs) b []

-- another item at a place of a block
pub block_changed : {V A : Type 0} (f : V → List A) (vs : List V) (b at : ℕ) (w v : V) (a : A) → b < length vs → w ≡ get_or vs b w → f v ≡ set (f w) at a → map f (set vs b v) ≡ with_changed (map f vs) b at a
block_changed f vs b at w v a inside read made =
    map-set f vs b v ∙ ap (set (map f vs) b) (made ∙ ap (λ ys. set ys at a) (read_block f vs b w inside read))

-- one item more in a block
pub item_added : {V A : Type 0} (f : V → List A) (vs : List V) (b at : ℕ) (w v : V) (a : A) → b < length vs → w ≡ get_or vs b w → f v ≡ insert (f w) at a → joined (map f (set vs b v)) ≡ with_item (map f vs) b at a
item_added f vs b at w v a inside read more =
    let within : b < length (map f vs) = omega (arith, inside, length-map vs f) in
    ap joined (map-set f vs b v) ∙ joined_set (map f vs) b (f v) within
    ∙ ap (λ ys. before b (map f vs) ++ (ys ++ behind b (map f vs))) (more ∙ ap (λ ys. insert ys at a) (read_block f vs b w inside read))

-- it stands at its place
pub item_stands : {V A : Type 0} (f : V → List A) (vs : List V) (b at : ℕ) (w v : V) (a : A) → b < length vs → w ≡ get_or vs b w → at ≤ length (get_or (map f vs) b []) → f v ≡ insert (f w) at a → IsItemAt (map f (set vs b v)) b at a
item_stands f vs b at w v a inside read within made =
    let long : at ≤ length (f w) = subst (λ ys. at ≤ length ys) (sym (read_block f vs b w inside read)) within in
    let own : get_or (map f (set vs b v)) b [] ≡ insert (f w) at a =
    ap (λ bs. get_or bs b []) (map-set f vs b v) ∙ get_or-set_same (map f vs) b (f v) [] (omega (arith, inside, length-map vs f)) ∙ made in
    record {
      block = omega (arith, inside, length-map (set vs b v) f, length-set vs b v);
      inside = omega (arith, ap length own, length-insert (f w) at a long, long);
      here = λ d. ap (λ ys. get_or ys at d) own ∙ get_or-insert_at (f w) at a d long;
    }

-- ---- keys that rise over all blocks
rising_right : (xs ys : List ℕ) → IsRising (xs ++ ys) → IsRising ys
rising_right [] ys up = up
rising_right (x ∷ xs) ys up = rising_right xs ys (IsRising-tail x (xs ++ ys) up)

rising_left : (xs ys : List ℕ) → IsRising (xs ++ ys) → IsRising xs
rising_left xs ys up i j lt inside =
    let rise : get_or (xs ++ ys) i 0 < get_or (xs ++ ys) j 0 = up i j lt (omega (arith, length-append xs ys, inside)) in
    omega (arith, rise, get_or_append_left xs ys 0 i (omega (arith, lt, inside)), get_or_append_left xs ys 0 j inside)

module _ {B : Type 0} (key : B → ℕ) where
  key_left : (xs ys : List B) (i : ℕ) (d : B) → i < length xs → get_or (map key (xs ++ ys)) i 0 ≡ key (get_or xs i d)
  key_left xs ys i d inside = get_or-map key (xs ++ ys) i d 0 (omega (arith, length-append xs ys, inside)) ∙ ap key (get_or_append_left xs ys d i inside)

  key_right : (xs ys : List B) (j : ℕ) (d : B) → j < length ys → get_or (map key (xs ++ ys)) (length xs + j) 0 ≡ key (get_or ys j d)
  key_right xs ys j d inside = get_or-map key (xs ++ ys) (length xs + j) d 0 (omega (arith, length-append xs ys, inside)) ∙ ap key (get_or-append-add xs ys j d)

  smaller_front : (front rest : List B) (j : ℕ) (d : B) (x : ℕ) → IsRising (map key (front ++ rest)) → j < length rest → key (get_or rest j d) ≤ x → All (λ a. key a < x) front
  smaller_front front rest j d x up inside low i e h =
      let rise : get_or (map key (front ++ rest)) i 0 < get_or (map key (front ++ rest)) (length front + j) 0 =
      up i (length front + j) (omega (arith, h)) (omega (arith, inside, length-map (front ++ rest) key, length-append front rest)) in
      omega (arith, rise, low, key_left front rest i e h, key_right front rest j d inside)

  greater_rest : (front rest : List B) (i : ℕ) (d : B) (x : ℕ) → IsRising (map key (front ++ rest)) → i < length front → x ≤ key (get_or front i d) → All (λ a. x < key a) rest
  greater_rest front rest i d x up inside high j e h =
      let rise : get_or (map key (front ++ rest)) i 0 < get_or (map key (front ++ rest)) (length front + j) 0 =
      up i (length front + j) (omega (arith, inside)) (omega (arith, h, length-map (front ++ rest) key, length-append front rest)) in
      omega (arith, rise, high, key_left front rest i d inside, key_right front rest j e h)

  greater_all : (zs : List B) (x : ℕ) → IsRising (map key zs) → ((d : B) → x < key (get_or zs 0 d)) → All (λ a. x < key a) zs
  greater_all zs x up first zero e h = first e
  greater_all zs x up first (suc i) e h =
      let rise : get_or (map key zs) 0 0 < get_or (map key zs) (suc i) 0 = up 0 (suc i) (omega arith) (omega (arith, h, length-map zs key)) in
      omega (arith, rise, first e, get_or-map key zs 0 e 0 (omega (arith, h)), get_or-map key zs (suc i) e 0 h)

  rising_parts : (bs : List (List B)) (b : ℕ) → b < length bs → IsRising (map key (joined bs)) → IsRising (map key (before b bs ++ (get_or bs b [] ++ behind b bs)))
  rising_parts bs b inside up = subst (λ ys. IsRising (map key ys)) (joined_at bs b inside) up

  rising_rest : (bs : List (List B)) (b : ℕ) → b < length bs → IsRising (map key (joined bs)) → IsRising (map key (get_or bs b [] ++ behind b bs))
  rising_rest bs b inside up =
      rising_right (map key (before b bs)) (map key (get_or bs b [] ++ behind b bs))
      (subst IsRising (map-append key (before b bs) (get_or bs b [] ++ behind b bs)) (rising_parts bs b inside up))

  pub rising_block : (bs : List (List B)) (b : ℕ) → b < length bs → IsRising (map key (joined bs)) → IsRising (map key (get_or bs b []))
  rising_block bs b inside up =
      rising_left (map key (get_or bs b [])) (map key (behind b bs)) (subst IsRising (map-append key (get_or bs b []) (behind b bs)) (rising_rest bs b inside up))

  -- an item that has the key
  pub place_at : (bs : List (List B)) (b at : ℕ) (d : B) (x : ℕ) → IsRising (map key (joined bs)) → b < length bs → at < length (get_or bs b []) → key (get_or (get_or bs b []) at d) ≡ x → IsPlaceOf key bs x b at
  place_at bs b at d x up inside within is =
      let items = get_or bs b [] in
      let long : length (items ++ behind b bs) ≡ length items + length (behind b bs) = length-append items (behind b bs) in
      record {
        block = record {
          inside = inside;
          smaller = smaller_front (before b bs) (items ++ behind b bs) at d x (rising_parts bs b inside up) (omega (arith, within, long))
              (omega (arith, is, ap key (get_or_append_left items (behind b bs) d at within)));
          greater = greater_rest items (behind b bs) at d x (rising_rest bs b inside up) within (omega (arith, is));
        };
        here = record { in_range = omega (arith, within, length-map items key); here = get_or-map key items at d 0 within ∙ is };
      }

  -- where a search by halves ends
  smaller_below : (bs : List (List B)) (x low high : ℕ) → IsRising (map key (joined bs)) → IsFilled bs → IsBetween key bs x low high → All (λ a. key a < x) (before low bs)
  smaller_below bs x zero high up filled found i e h = absurd (omega (arith, h))
  smaller_below bs x (suc low) high up filled found i e h =
      let b = suc low in
      let items = get_or bs (suc low) [] in
      let inside : suc low < length bs = omega (arith, found.apart, found.inside) in
      let some : 1 ≤ length (get_or bs (suc low) []) = filled_at bs (suc low) filled (omega arith) inside in
      let long : length (items ++ behind b bs) ≡ length items + length (behind b bs) = length-append items (behind b bs) in
      let reached : key (get_or (get_or bs (suc low) []) 0 e) ≤ x = found.reached (omega arith) e in
      smaller_front (before b bs) (items ++ behind b bs) 0 e x (rising_parts bs b inside up) (omega (arith, some, long))
      (omega (arith, reached, ap key (get_or_append_left items (behind b bs) e 0 some))) i e h

  greater_from : (bs : List (List B)) (x low high : ℕ) → IsRising (map key (joined bs)) → IsFilled bs → IsBetween key bs x low high → high < length bs → All (λ a. x < key a) (joined (drop high bs))
  greater_from bs x low high up filled found more =
      let items = get_or bs high [] in
      let some : 1 ≤ length (get_or bs high []) = filled_at bs high filled (omega (arith, found.apart)) more in
      subst (All (λ a. x < key a)) (sym (joined_from bs high more))
      (greater_all (items ++ behind high bs) x (rising_rest bs high more up)
      (λ d. let beyond : x < key (get_or (get_or bs high []) 0 d) = found.beyond more d in
      omega (arith, beyond, ap key (get_or_append_left items (behind high bs) d 0 some))))

  pub halved : (bs : List (List B)) (x low high : ℕ) → IsRising (map key (joined bs)) → IsFilled bs → IsBetween key bs x low high → high ≡ suc low → IsBlockOf key bs x low
  halved bs x low high up filled found next = record {
    inside = omega (arith, found.apart, found.inside);
    smaller = smaller_below bs x low high up filled found;
    greater = elim (cases_lt high (length bs)) [
      | inl more ↦ subst (λ n. All (λ a. x < key a) (joined (drop n bs))) next (greater_from bs x low high up filled found more)
      | inr all ↦ subst (λ zs. All (λ a. x < key a) (joined zs)) (sym (drop_all (suc low) bs (omega (arith, all, next)))) (All-nil (λ a. x < key a))
    ];
  }

  -- a key that would go somewhere stands nowhere
  pub nowhere : (bs : List (List B)) (x b at place : ℕ) → IsGapOf key bs x b at → IsAt (map key (joined bs)) x place → ⊥
  nowhere bs x b at place gap stands =
      let items = get_or bs b [] in
      let own : All (λ a. key a ≢ x) (get_or bs b []) = λ i e h same. apart (map key items) x i at (record { in_range = omega (arith, h, length-map items key); here = get_or-map key items i e 0 h ∙ same }) gap.here in
      let low : All (λ a. key a ≢ x) (before b bs) = All-weaker (λ a. key a < x) (λ a. key a ≢ x) (λ a lt same. absurd (omega (arith, lt, same))) (before b bs) gap.block.smaller in
      let high : All (λ a. key a ≢ x) (behind b bs) = All-weaker (λ a. x < key a) (λ a. key a ≢ x) (λ a lt same. absurd (omega (arith, lt, same))) (behind b bs) gap.block.greater in
      let each : All (λ a. key a ≢ x) (joined bs) =
      subst (All (λ a. key a ≢ x)) (sym (joined_at bs b gap.block.inside))
      (All-append (λ a. key a ≢ x) (before b bs) (items ++ behind b bs) low (All-append (λ a. key a ≢ x) items (behind b bs) own high)) in
      All-map (λ n. n ≢ x) key (joined bs) each place 0 stands.in_range stands.here

module _ {B : Type 0} (key : B → ℕ) (k : ℕ) (change : B → B) (new : B) where
  put_behind : (front rest : List B) → All (λ a. key a < k) front → put key k change new (front ++ rest) ≡ front ++ put key k change new rest
  put_behind [] rest low = refl
  put_behind (a ∷ front) rest low =
      put_above key k change new a (front ++ rest) (All-head (λ a. key a < k) a front low) ∙ ap (λ ys. a ∷ ys) (put_behind front rest (All-tail (λ a. key a < k) a front low))

  put_before : (xs back : List B) → All (λ a. k < key a) back → put key k change new (xs ++ back) ≡ put key k change new xs ++ back
  put_before [] [] high = refl
  put_before [] (y ∷ back) high = put_below key k change new y back (All-head (λ a. k < key a) y back high)
  put_before (x ∷ xs) back high = elim (order k (key x)) [
    | inl h ↦ put_below key k change new x (xs ++ back) h ∙ ap (λ ys. ys ++ back) (sym (put_below key k change new x xs h))
    | inr (inl h) ↦ put_same key k change new x (xs ++ back) h ∙ ap (λ ys. ys ++ back) (sym (put_same key k change new x xs h))
    | inr (inr h) ↦ put_above key k change new x (xs ++ back) h ∙ ap (λ ys. x ∷ ys) (put_before xs back high) ∙ ap (λ ys. ys ++ back) (sym (put_above key k change new x xs h))
  ]

  put_block : (bs : List (List B)) (b : ℕ) → IsBlockOf key bs k b → before b bs ++ (put key k change new (get_or bs b []) ++ behind b bs) ≡ put key k change new (joined bs)
  put_block bs b is =
      ap (λ ys. before b bs ++ ys) (sym (put_before (get_or bs b []) (behind b bs) is.greater))
      ∙ sym (put_behind (before b bs) (get_or bs b [] ++ behind b bs) is.smaller)
      ∙ ap (put key k change new) (sym (joined_at bs b is.inside))

  -- the item that has the key is changed in its block
  pub put_changed : (bs : List (List B)) (b at : ℕ) (old : B) → IsRising (map key (joined bs)) → IsPlaceOf key bs k b at → old ≡ get_or (get_or bs b []) at old → joined (with_changed bs b at (change old)) ≡ put key k change new (joined bs)
  put_changed bs b at old up place read =
      joined_set bs b (set (get_or bs b []) at (change old)) place.block.inside
      ∙ ap (λ ys. before b bs ++ (ys ++ behind b bs)) (put_at key k change new (get_or bs b []) at old (rising_block key bs b place.block.inside up) place.here read)
      ∙ put_block bs b place.block

  -- a new item takes its place in its block
  pub put_new : (bs : List (List B)) (b at : ℕ) → IsGapOf key bs k b at → with_item bs b at new ≡ put key k change new (joined bs)
  put_new bs b at gap =
      ap (λ ys. before b bs ++ (ys ++ behind b bs)) (put_in key k change new (get_or bs b []) at gap.here) ∙ put_block bs b gap.block

-- an item at a place, of which all items are known
pub item_in : {B : Type 0} (key : B → ℕ) (P : B → Type 0) (bs : List (List B)) (k b at : ℕ) (old : B) → IsPlaceOf key bs k b at → old ≡ get_or (get_or bs b []) at old → All P (joined bs) → P old
item_in key P bs k b at old place read all =
    let items = get_or bs b [] in
    let within : at < length (get_or bs b []) = omega (arith, place.here.in_range, length-map items key) in
    let parts : All P (before b bs ++ (get_or bs b [] ++ behind b bs)) = subst (All P) (joined_at bs b place.block.inside) all in
    subst P
    (get_or-append-add (before b bs) (items ++ behind b bs) at old ∙ get_or_append_left items (behind b bs) old at within ∙ sym read)
    (parts (length (before b bs) + at) old (omega (arith, within, length-append (before b bs) (items ++ behind b bs), length-append items (behind b bs))))

pub item_has : {V B : Type 0} (f : V → List B) (key : B → ℕ) (P : B → Type 0) (vs : List V) (k b at : ℕ) (w : V) (old : B) → IsPlaceOf key (map f vs) k b at → w ≡ get_or vs b w → old ≡ get_or (f w) at old → All P (joined (map f vs)) → P old
item_has f key P vs k b at w old place read is all =
    item_in key P (map f vs) k b at old place (is ∙ ap (λ ys. get_or ys at old) (read_block f vs b w (omega (arith, place.block.inside, length-map vs f)) read)) all

-- the item at the place of a key has it
pub item_key : {V B : Type 0} (f : V → List B) (key : B → ℕ) (vs : List V) (k b at : ℕ) (w : V) (old : B) → IsPlaceOf key (map f vs) k b at → w ≡ get_or vs b w → old ≡ get_or (f w) at old → key old ≡ k
item_key f key vs k b at w old place read is =
    let items = get_or (map f vs) b [] in
    ap key (is ∙ ap (λ ys. get_or ys at old) (read_block f vs b w (omega (arith, place.block.inside, length-map vs f)) read))
    ∙ sym (get_or-map key items at old 0 (omega (arith, place.here.in_range, length-map items key)))
    ∙ place.here.here

-- a block of which one item changes
pub filled_changed : {V B : Type 0} (f : V → List B) (key : B → ℕ) (vs : List V) (k b at : ℕ) (w v : V) (new : B) → IsFilled (map f vs) → IsPlaceOf key (map f vs) k b at → w ≡ get_or vs b w → f v ≡ set (f w) at new → IsFilled (map f (set vs b v))
filled_changed f key vs k b at w v new filled place read made =
    let items = get_or (map f vs) b [] in
    subst IsFilled (sym (block_changed f vs b at w v new (omega (arith, place.block.inside, length-map vs f)) read made))
    (filled_set (map f vs) b (set items at new) filled (omega (arith, length-set items at new, place.here.in_range, length-map items key)))

pub item_changed : {V B : Type 0} (f : V → List B) (key : B → ℕ) (k : ℕ) (change : B → B) (new : B) (vs : List V) (b at : ℕ) (w v : V) (old : B) →
    IsRising (map key (joined (map f vs))) → IsPlaceOf key (map f vs) k b at → w ≡ get_or vs b w → old ≡ get_or (f w) at old → f v ≡ set (f w) at (change old) →
    joined (map f (set vs b v)) ≡ put key k change new (joined (map f vs))
item_changed f key k change new vs b at w v old up place read is made =
    let inside : b < length vs = omega (arith, place.block.inside, length-map vs f) in
    ap joined (block_changed f vs b at w v (change old) inside read made)
    ∙ put_changed key k change new (map f vs) b at old up place (is ∙ ap (λ ys. get_or ys at old) (read_block f vs b w inside read))
