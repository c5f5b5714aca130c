-- The counts of a read.
use Rattle.std.proofs.Common.{◌≡◌, ℕ, ◌+◌, ◌<◌, ◌≤◌, ◌^◌, Bool, not, ◌&&◌, ◌==◌, cond, List, [], ◌∷◌, ◌++◌, length, map, take, drop, count_by, nat_lt, nat_eq, refl, ap, ap₂, sym, subst, ◌∙◌, arith, get_or, length-take}
use Rattle.std.proofs.lemmas.Bool.Decides.{nat_tests}
use Rattle.std.proofs.lemmas.List.{drop_more, get_or-map}
use Rattle.std.proofs.Math.Seq.{take-add}
use Rattle.std.proofs.lemmas.List.Sums.{count_by-le-length, sum_by-append}
use Rattle.std.specs.Simd.Lanes.{sel_l, zip2}
use Rattle.stamp_lanes.specs.declared.bulk.Bulk.{Bulk}
use Rattle.stamp_lanes.specs.Plain.{IsBulk, Place, is_by_kernel, is_by_thread, is_old, is_plain, is_untouched}
use Rattle.stamp_lanes.proofs.Columns.{PlaceColumns}
use Rattle.stamp_lanes.proofs.Mapped.{chosen, counted}

-- the later of two stamps is 0 where both are
plain_test : (o w : ℕ) → nat_eq (cond (nat_lt o w) w o) 0 ≡ (o == 0 && w == 0)
plain_test o w = grind (arith, nat_tests)

thread_test : (o w m : ℕ) → nat_lt o (cond (nat_eq m 0) w 0) ≡ (nat_lt o w && m == 0)
thread_test o w m = grind (arith, nat_tests)

kernel_test : (o w m : ℕ) → nat_lt o (cond (nat_eq m 0) 0 w) ≡ (nat_lt o w && not (m == 0))
kernel_test o w m = grind (arith, nat_tests)

old_test : (o start : ℕ) → nat_lt (cond (nat_eq o 0) start o) start ≡ (nat_lt 0 o && nat_lt o start)
old_test o start = grind (arith, nat_tests)

-- the lanes from which a block's counts are made
pub record BlockLanes (start : ℕ) (ps : List Place) (os ws ms zeros starts : List ℕ) : Type 0 where
  pub own : os ≡ map (λ (p : Place). p.own) ps
  pub write : ws ≡ map (λ (p : Place). p.write) ps
  pub mark : ms ≡ map (λ (p : Place). p.mark) ps
  pub zeros_are : zeros ≡ map (λ (p : Place). 0) ps
  pub starts_are : starts ≡ map (λ (p : Place). start) ps

module _ (start : ℕ) (ps : List Place) (os ws ms zeros starts : List ℕ) (is : BlockLanes start ps os ws ms zeros starts) where
  pub plain_count : (later : List ℕ) (n : ℕ) → later ≡ sel_l (zip2 nat_lt os ws) ws os → n ≡ count_by (λ b. b) (zip2 nat_eq later zeros) → n ≡ count_by is_plain ps
  plain_count later n e f =
      f ∙ counted nat_eq (λ (p : Place). cond (nat_lt p.own p.write) p.write p.own) (λ (p : Place). 0) is_plain (λ p. plain_test p.own p.write) ps
      (chosen nat_lt (λ (p : Place). p.own) (λ p. p.write) (λ p. p.write) (λ p. p.own) ps is.own is.write is.write is.own e) is.zeros_are

  pub thread_count : (written : List ℕ) (n : ℕ) → written ≡ sel_l (zip2 nat_eq ms zeros) ws zeros → n ≡ count_by (λ b. b) (zip2 nat_lt os written) → n ≡ count_by is_by_thread ps
  thread_count written n e f =
      f ∙ counted nat_lt (λ (p : Place). p.own) (λ (p : Place). cond (nat_eq p.mark 0) p.write 0) is_by_thread (λ p. thread_test p.own p.write p.mark) ps
      is.own (chosen nat_eq (λ (p : Place). p.mark) (λ p. 0) (λ p. p.write) (λ p. 0) ps is.mark is.zeros_are is.write is.zeros_are e)

  pub kernel_count : (written : List ℕ) (n : ℕ) → written ≡ sel_l (zip2 nat_eq ms zeros) zeros ws → n ≡ count_by (λ b. b) (zip2 nat_lt os written) → n ≡ count_by is_by_kernel ps
  kernel_count written n e f =
      f ∙ counted nat_lt (λ (p : Place). p.own) (λ (p : Place). cond (nat_eq p.mark 0) 0 p.write) is_by_kernel (λ p. kernel_test p.own p.write p.mark) ps
      is.own (chosen nat_eq (λ (p : Place). p.mark) (λ p. 0) (λ p. 0) (λ p. p.write) ps is.mark is.zeros_are is.zeros_are is.write e)

  pub untouched_count : (n : ℕ) → n ≡ count_by (λ b. b) (zip2 nat_eq os zeros) → n ≡ count_by is_untouched ps
  untouched_count n f = f ∙ counted nat_eq (λ (p : Place). p.own) (λ (p : Place). 0) is_untouched (λ p. refl) ps is.own is.zeros_are

  pub old_count : (touched : List ℕ) (n : ℕ) → touched ≡ sel_l (zip2 nat_eq os zeros) starts os → n ≡ count_by (λ b. b) (zip2 nat_lt touched starts) → n ≡ count_by (is_old start) ps
  old_count touched n e f =
      f ∙ counted nat_lt (λ (p : Place). cond (nat_eq p.own 0) start p.own) (λ (p : Place). start) (is_old start) (λ p. old_test p.own start) ps
      (chosen nat_eq (λ (p : Place). p.own) (λ p. 0) (λ p. start) (λ p. p.own) ps is.own is.zeros_are is.starts_are is.own e) is.starts_are

-- the counts of two parts
pub count_both : {X : Type 0} (p : X → Bool) (xs ys : List X) {m n : ℕ} → m ≡ count_by p xs → n ≡ count_by p ys → m + n ≡ count_by p (xs ++ ys)
count_both p xs ys e f = ap₂ (λ (m n : ℕ). m + n) e f ∙ sym (sum_by-append (λ x. cond (p x) 1 0) xs ys)

pub bulk_both : (start : ℕ) (ps qs : List Place) (a b : Bulk) → IsBulk start ps a → IsBulk start qs b
    → IsBulk start (ps ++ qs) (record { plain = a.plain + b.plain; thread = a.thread + b.thread; kernel = a.kernel + b.kernel; untouched = a.untouched + b.untouched; old = a.old + b.old })
bulk_both start ps qs a b e f = record {
  plain = count_both is_plain ps qs e.plain f.plain;
  thread = count_both is_by_thread ps qs e.thread f.thread;
  kernel = count_both is_by_kernel ps qs e.kernel f.kernel;
  untouched = count_both is_untouched ps qs e.untouched f.untouched;
  old = count_both (is_old start) ps qs e.old f.old;
}

fits_both : {X : Type 0} (p : X → Bool) (xs ys : List X) {m n : ℕ} → length xs + length ys < 2 ^ 32 → m ≡ count_by p xs → n ≡ count_by p ys → m + n < 2 ^ 32
fits_both p xs ys {m} {n} few e f =
    let most = count_by-le-length p xs in
    let most2 = count_by-le-length p ys in
    omega arith

-- the sums of two counts fit
pub record FitBoth (a b : Bulk) : Type 0 where
  pub plain : a.plain + b.plain < 2 ^ 32
  pub thread : a.thread + b.thread < 2 ^ 32
  pub kernel : a.kernel + b.kernel < 2 ^ 32
  pub untouched : a.untouched + b.untouched < 2 ^ 32
  pub old : a.old + b.old < 2 ^ 32

pub bulk_fits : (start : ℕ) (ps qs : List Place) (a b : Bulk) → length ps + length qs < 2 ^ 32 → IsBulk start ps a → IsBulk start qs b → FitBoth a b
bulk_fits start ps qs a b few e f = record {
  plain = fits_both is_plain ps qs few e.plain f.plain;
  thread = fits_both is_by_thread ps qs few e.thread f.thread;
  kernel = fits_both is_by_kernel ps qs few e.kernel f.kernel;
  untouched = fits_both is_untouched ps qs few e.untouched f.untouched;
  old = fits_both (is_old start) ps qs few e.old f.old;
}

-- n more places
pub bulk_more : (start : ℕ) (ps : List Place) (at n : ℕ) (a b total : Bulk)
    → total ≡ record { plain = a.plain + b.plain; thread = a.thread + b.thread; kernel = a.kernel + b.kernel; untouched = a.untouched + b.untouched; old = a.old + b.old }
    → IsBulk start (take at ps) a → IsBulk start (take n (drop at ps)) b → IsBulk start (take (at + n) ps) total
bulk_more start ps at n a b total is e f =
    subst (IsBulk start (take (at + n) ps)) (sym is) (
    subst (λ (qs : List Place). IsBulk start qs (record { plain = a.plain + b.plain; thread = a.thread + b.thread; kernel = a.kernel + b.kernel; untouched = a.untouched + b.untouched; old = a.old + b.old }))
    (sym (take-add at n ps)) (bulk_both start (take at ps) (take n (drop at ps)) a b e f))

pub more_fits : (start : ℕ) (ps : List Place) (at n : ℕ) (a b : Bulk) → length ps ≤ 2 ^ 30 → n ≤ 16 → IsBulk start (take at ps) a → IsBulk start (take n (drop at ps)) b → FitBoth a b
more_fits start ps at n a b few small e f =
    let one = length-take at ps in
    let two = length-take n (drop at ps) in
    let fits : length (take at ps) + length (take n (drop at ps)) < 2 ^ 32 = omega arith in
    bulk_fits start (take at ps) (take n (drop at ps)) a b fits e f

-- the place that is read
pub one_place : (os ws ms : List ℕ) (ps : List Place) → PlaceColumns os ws ms ps → (at o w m : ℕ) → at < length ps → get_or os at 0 ≡ o → get_or ws at 0 ≡ w → get_or ms at 0 ≡ m
    → record { own = o; write = w; mark = m } ∷ [] ≡ take 1 (drop at ps)
one_place os ws ms ps cols at o w m lt e f h =
    let blank : Place = record { own = 0; write = 0; mark = 0 } in
    let p = get_or ps at blank in
    let own : p.own ≡ o = sym (get_or-map (λ (p : Place). p.own) ps at blank 0 lt) ∙ (ap (λ l. get_or l at 0) (sym cols.own) ∙ e) in
    let write : p.write ≡ w = sym (get_or-map (λ (p : Place). p.write) ps at blank 0 lt) ∙ (ap (λ l. get_or l at 0) (sym cols.write) ∙ f) in
    let mark : p.mark ≡ m = sym (get_or-map (λ (p : Place). p.mark) ps at blank 0 lt) ∙ (ap (λ l. get_or l at 0) (sym cols.mark) ∙ h) in
    let same : p ≡ record { own = o; write = w; mark = m } = λ i. record { own = own i; write = write i; mark = mark i } in
    sym (ap (take 1) (drop_more ps at blank lt) ∙ ap (λ (q : Place). q ∷ []) same)
