-- The columns of places and of renewals.
use Rattle.std.proofs.Common.{◌≡◌, ℕ, List, [], ◌∷◌, length, map, refl, ap, sym, ◌∙◌, ◌<◌, get_or, take, drop, arith}
use Rattle.std.proofs.lemmas.List.{drop-map, get_or-map, length-map, take-map}
use Rattle.std.specs.Simd.Lanes.{chunk}
use Rattle.stamp_lanes.specs.Plain.{Place, Renewal, places, renewals}
use Rattle.stamp_lanes.proofs.Loaded.{loaded_is}

-- the columns of places are the lists that these were made of
pub record PlaceColumns (os ws ms : List ℕ) (ps : List Place) : Type 0 where
  pub own : os ≡ map (λ (p : Place). p.own) ps
  pub write : ws ≡ map (λ (p : Place). p.write) ps
  pub mark : ms ≡ map (λ (p : Place). p.mark) ps

pub place_columns : (os ws ms : List ℕ) → length os ≡ length ws → length os ≡ length ms → PlaceColumns os ws ms (places os ws ms)
place_columns [] [] [] e f = record { own = refl; write = refl; mark = refl }
place_columns [] [] (m ∷ ms) e f = absurd (omega arith)
place_columns [] (w ∷ ws) ms e f = absurd (omega arith)
place_columns (o ∷ os) [] ms e f = absurd (omega arith)
place_columns (o ∷ os) (w ∷ ws) [] e f = absurd (omega arith)
place_columns (o ∷ os) (w ∷ ws) (m ∷ ms) e f =
    let same : length os ≡ length ws = omega arith in
    let same2 : length os ≡ length ms = omega arith in
    let rest = place_columns os ws ms same same2 in
    record { own = ap (λ xs. o ∷ xs) rest.own; write = ap (λ xs. w ∷ xs) rest.write; mark = ap (λ xs. m ∷ xs) rest.mark }

-- likewise
pub record RenewalColumns (os ks ws ls : List ℕ) (rs : List Renewal) : Type 0 where
  pub own : os ≡ map (λ (r : Renewal). r.own) rs
  pub own_class : ks ≡ map (λ (r : Renewal). r.own_class) rs
  pub write : ws ≡ map (λ (r : Renewal). r.write) rs
  pub write_class : ls ≡ map (λ (r : Renewal). r.write_class) rs

pub renewal_columns : (os ks ws ls : List ℕ) → length os ≡ length ks → length os ≡ length ws → length os ≡ length ls → RenewalColumns os ks ws ls (renewals os ks ws ls)
renewal_columns [] [] [] [] e f g = record { own = refl; own_class = refl; write = refl; write_class = refl }
renewal_columns [] [] [] (l ∷ ls) e f g = absurd (omega arith)
renewal_columns [] [] (w ∷ ws) ls e f g = absurd (omega arith)
renewal_columns [] (k ∷ ks) ws ls e f g = absurd (omega arith)
renewal_columns (o ∷ os) [] ws ls e f g = absurd (omega arith)
renewal_columns (o ∷ os) (k ∷ ks) [] ls e f g = absurd (omega arith)
renewal_columns (o ∷ os) (k ∷ ks) (w ∷ ws) [] e f g = absurd (omega arith)
renewal_columns (o ∷ os) (k ∷ ks) (w ∷ ws) (l ∷ ls) e f g =
    let same : length os ≡ length ks = omega arith in
    let same2 : length os ≡ length ws = omega arith in
    let same3 : length os ≡ length ls = omega arith in
    let rest = renewal_columns os ks ws ls same same2 same3 in
    record {
      own = ap (λ xs. o ∷ xs) rest.own;
      own_class = ap (λ xs. k ∷ xs) rest.own_class;
      write = ap (λ xs. w ∷ xs) rest.write;
      write_class = ap (λ xs. l ∷ xs) rest.write_class;
    }

-- sixteen items of a column
pub part_of_column : {V : Type 0} (p : V → ℕ) (vs : List V) (xs lanes : List ℕ) (at : ℕ) → lanes ≡ take 16 (drop at xs) → xs ≡ map p vs → lanes ≡ map p (take 16 (drop at vs))
part_of_column p vs xs lanes at is column =
    is ∙ (ap (λ l. take 16 (drop at l)) column ∙ (ap (take 16) (drop-map p at vs) ∙ take-map p 16 (drop at vs)))

pub column_length : {V : Type 0} (p : V → ℕ) (vs : List V) (xs : List ℕ) → xs ≡ map p vs → length xs ≡ length vs
column_length p vs xs column = ap length column ∙ length-map vs p

-- sixteen places
pub block_columns : (os ws ms o w m : List ℕ) (at : ℕ) → length os ≡ length ws → length os ≡ length ms → o ≡ take 16 (drop at os) → w ≡ take 16 (drop at ws) → m ≡ take 16 (drop at ms)
    → PlaceColumns o w m (take 16 (drop at (places os ws ms)))
block_columns os ws ms o w m at e f own write mark =
    let all = place_columns os ws ms e f in
    let ps = places os ws ms in
    record {
      own = part_of_column (λ (p : Place). p.own) ps os o at own all.own;
      write = part_of_column (λ (p : Place). p.write) ps ws w at write all.write;
      mark = part_of_column (λ (p : Place). p.mark) ps ms m at mark all.mark;
    }

pub places_length : (os ws ms : List ℕ) → length os ≡ length ws → length os ≡ length ms → length (places os ws ms) ≡ length os
places_length os ws ms e f = sym (column_length (λ (p : Place). p.own) (places os ws ms) os (place_columns os ws ms e f).own)

-- the numbers of stamps are as many as the stamps
pub numbers_like : {X : Type 0} (f : X → ℕ) (xs : List X) (ys : List ℕ) → length xs ≡ length ys → length (map f xs) ≡ length ys
numbers_like f xs ys same = length-map xs f ∙ same

pub numbers_both : {X : Type 0} (f : X → ℕ) (xs ys : List X) → length xs ≡ length ys → length (map f xs) ≡ length (map f ys)
numbers_both f xs ys same = length-map xs f ∙ (same ∙ sym (length-map ys f))

-- the renewal at a place
pub one_renewal : (os ks ws ls : List ℕ) (rs : List Renewal) → RenewalColumns os ks ws ls rs → (at o k w l : ℕ) → at < length rs
    → get_or os at 0 ≡ o → get_or ks at 0 ≡ k → get_or ws at 0 ≡ w → get_or ls at 0 ≡ l
    → get_or rs at (record { own = 0; own_class = 0; write = 0; write_class = 0 }) ≡ record { own = o; own_class = k; write = w; write_class = l }
one_renewal os ks ws ls rs columns at o k w l lt e f g h =
    let blank : Renewal = record { own = 0; own_class = 0; write = 0; write_class = 0 } in
    let r = get_or rs at blank in
    let own : r.own ≡ o = sym (get_or-map (λ (r : Renewal). r.own) rs at blank 0 lt) ∙ (ap (λ xs. get_or xs at 0) (sym columns.own) ∙ e) in
    let own_class : r.own_class ≡ k = sym (get_or-map (λ (r : Renewal). r.own_class) rs at blank 0 lt) ∙ (ap (λ xs. get_or xs at 0) (sym columns.own_class) ∙ f) in
    let write : r.write ≡ w = sym (get_or-map (λ (r : Renewal). r.write) rs at blank 0 lt) ∙ (ap (λ xs. get_or xs at 0) (sym columns.write) ∙ g) in
    let write_class : r.write_class ≡ l = sym (get_or-map (λ (r : Renewal). r.write_class) rs at blank 0 lt) ∙ (ap (λ xs. get_or xs at 0) (sym columns.write_class) ∙ h) in
    λ i. record { own = own i; own_class = own_class i; write = write i; write_class = write_class i }

-- the columns of a call have one length
abbrev pub OneLength : {X : Type 0} → List X → List X → List X → List X → List X → Type 0
OneLength own own_class write write_class into =
    (length own ≡ length into) × (length own_class ≡ length into) × (length write ≡ length into) × (length write_class ≡ length into)

module _ {X : Type 0} (f : X → ℕ) (own own_class write write_class into : List X) (lengths : OneLength own own_class write write_class into) where
  pub all_renewals : RenewalColumns (map f own) (map f own_class) (map f write) (map f write_class) (renewals (map f own) (map f own_class) (map f write) (map f write_class))
  all_renewals = renewal_columns (map f own) (map f own_class) (map f write) (map f write_class)
      (numbers_both f own own_class (lengths.0 ∙ sym lengths.1)) (numbers_both f own write (lengths.0 ∙ sym lengths.2)) (numbers_both f own write_class (lengths.0 ∙ sym lengths.3))

  pub as_many : length (renewals (map f own) (map f own_class) (map f write) (map f write_class)) ≡ length own
  as_many = sym (column_length (λ (r : Renewal). r.own) _ (map f own) all_renewals.own) ∙ length-map own f

  pub loaded_renewals : (o k w l : List ℕ) (at : ℕ) → o ≡ map f (chunk at 16 own) → k ≡ map f (chunk at 16 own_class) → w ≡ map f (chunk at 16 write) → l ≡ map f (chunk at 16 write_class)
      → RenewalColumns o k w l (take 16 (drop at (renewals (map f own) (map f own_class) (map f write) (map f write_class))))
  loaded_renewals o k w l at a b c d =
      let rs = renewals (map f own) (map f own_class) (map f write) (map f write_class) in
      record {
        own = part_of_column (λ (r : Renewal). r.own) rs (map f own) o at (loaded_is f own at o a) all_renewals.own;
        own_class = part_of_column (λ (r : Renewal). r.own_class) rs (map f own_class) k at (loaded_is f own_class at k b) all_renewals.own_class;
        write = part_of_column (λ (r : Renewal). r.write) rs (map f write) w at (loaded_is f write at w c) all_renewals.write;
        write_class = part_of_column (λ (r : Renewal). r.write_class) rs (map f write_class) l at (loaded_is f write_class at l d) all_renewals.write_class;
      }
