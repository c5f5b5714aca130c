-- A cache stands for its accesses, also after one more.
use Rattle.std.proofs.Common.{◌≡◌, ℕ, zero, suc, ◌+◌, ◌-◌, ◌*◌, ◌%◌, ◌<◌, ◌≤◌, Bool, true, false, not, ◌&&◌, cond, nat_eq, nat_le, List, [], ◌∷◌, length, take, drop, get_or, replicate, ◌≢◌, refl, sym, ap, ap₂, ◌∙◌, subst, arith}
use Rattle.std.specs.Prelude.{All, slice_set, Option, Some, None}
use Rattle.std.specs.Option.{option_map_or}
use Rattle.std.specs.Int.{is_power_of_two}
use Rattle.std.proofs.lemmas.List.{take-take, length-take-le, length-drop, length-replicate, get_or-set_same, get_or-set_other, length-set}
use Rattle.std.proofs.Math.Nat.{mod-lt, mul-le-mul_left, mul-suc}
use Rattle.std.proofs.lemmas.Bool.{and_parts, eqb-true}
use Rattle.std.proofs.Math.Seq.{take-nil}
use Rattle.std.proofs.lemmas.Bool.Decides.{nat_tests}
use Rattle.cache_lines.specs.Shapes.{Dimensions, shape_of, are_sets, are_ways, is_line}
use Rattle.cache_lines.specs.declared.shape.TheConstants.{SETS, WAYS, LEAST_LINE, LINE}
use Rattle.cache_lines.specs.Held.{Held}
use Rattle.cache_lines.specs.Kept.{recent, CacheStandsFor}
use Rattle.cache_lines.specs.Misses.{was_accessed, misses, different}
use Rattle.cache_lines.specs.Sets.{lines_of}
use Rattle.cache_lines.specs.Private.Recency.{touched}
use Rattle.cache_lines.proofs.Recent.{misses_is, recent_is, others_stay}
use Rattle.cache_lines.proofs.Rows.{length-lines_of, none-lines_of, at-lines_of, set-lines_of, written}

abbrev pub held : Dimensions → List ℕ → List ℕ → Held
held shape used places = record { shape = shape; sets = lines_of shape.ways used places }

-- a new cache
pub new_stands : (shape : Dimensions) (used places : List ℕ) → used ≡ replicate shape.sets 0 → CacheStandsFor (held shape used places) []
new_stands shape used places is =
    subst (λ us. CacheStandsFor (held shape us places) []) (sym is) (record {
      all = length-lines_of shape.ways (replicate shape.sets 0) places ∙ length-replicate shape.sets 0;
      each = λ set lt. none-lines_of shape.ways shape.sets places set ∙ sym (take-nil shape.ways);
    })

-- What the program keeps, before an access of a line: the set of the line has its places and so many of them used.
pub record IsReady (shape : Dimensions) (used places : List ℕ) (line at k u : ℕ) : Type 0 where
  pub some_set : line % shape.sets < shape.sets
  pub some_way : 1 ≤ shape.ways
  pub at_is : at ≡ shape.ways * (line % shape.sets)
  pub k_is : k ≡ shape.ways
  pub all : length used ≡ shape.sets
  pub few : All (λ n. n ≤ shape.ways) used
  pub u_is : u ≡ get_or used (line % shape.sets) u
  pub inside : at + k ≤ length places

some-power : (n : ℕ) → is_power_of_two n ≡ true → 1 ≤ n
unfolding lib.Count.ones
some-power zero e = absurd (cc)
some-power (suc n) e = omega arith

at-least-one : (n : ℕ) → nat_le 1 n ≡ true → 1 ≤ n
at-least-one n e = grind (arith, nat_tests)

-- a shape that is taken has a set, and a way
some_of_each : (sets ways line : ℕ) (shape : Dimensions) → shape_of sets ways line ≡ Some shape → (1 ≤ sets) × (1 ≤ ways)
some_of_each sets ways line shape e =
    let passes : ((are_sets sets && are_ways ways) && is_line line) ≡ true = by_test ((are_sets sets && are_ways ways) && is_line line) (record { sets = sets; ways = ways; line = line }) e in
    let both = (and_parts (are_sets sets && are_ways ways) (is_line line) passes).0 in
    let sets_are = (and_parts (are_sets sets) (are_ways ways) both).0 in
    let ways_are = (and_parts (are_sets sets) (are_ways ways) both).1 in
    (some-power sets (and_parts (is_power_of_two sets) (nat_le sets SETS) sets_are).0, at-least-one ways (and_parts (nat_le 1 ways) (nat_le ways WAYS) ways_are).0)
  where
    by_test : (b : Bool) (f : Dimensions) → cond b (Some f) None ≡ Some shape → b ≡ true
    by_test true f q = refl
    by_test false f q = absurd (cc)

-- and a line of its own
pub wide_lines : (sets ways line : ℕ) (shape : Dimensions) → shape_of sets ways line ≡ Some shape → LEAST_LINE ≤ shape.line
wide_lines sets ways line shape e = by_test ((are_sets sets && are_ways ways) && is_line line) refl e
  where
    by_test : (b : Bool) → ((are_sets sets && are_ways ways) && is_line line) ≡ b → cond b (Some (record { sets = sets; ways = ways; line = line })) None ≡ Some shape → LEAST_LINE ≤ shape.line
    by_test true passes q =
        let line_is = (and_parts (are_sets sets && are_ways ways) (is_line line) passes).1 in
        let wide : nat_le LEAST_LINE line ≡ true = (and_parts (is_power_of_two line) (nat_le LEAST_LINE line) (and_parts (is_power_of_two line && nat_le LEAST_LINE line) (nat_le line LINE) line_is).0).1 in
        let same : line ≡ shape.line = ap (λ (o : Option Dimensions). option_map_or (λ (f : Dimensions). f.line) o line) q in
        grind (arith, nat_tests, wide, same)
    by_test false passes q = absurd (cc)

pub ready_is : (shape : Dimensions) (used places : List ℕ) (line u s w : ℕ) → s ≡ shape.sets → w ≡ shape.ways → shape_of shape.sets shape.ways shape.line ≡ Some shape → u ≡ get_or used (line % s) u → length used ≡ shape.sets → All (λ n. n ≤ shape.ways) used → length places ≡ shape.ways * shape.sets
    → IsReady shape used places line (w * (line % s)) (w * (line % s) + w - w * (line % s)) u
ready_is shape used places line u s w s_is w_is taken u_is all few long =
    let some = some_of_each shape.sets shape.ways shape.line shape taken in
    let below : line % shape.sets < shape.sets = mod-lt line (omega (arith, some.0)) in
    let at_is : w * (line % s) ≡ shape.ways * (line % shape.sets) = ap₂ (λ a b. a * (line % b)) w_is s_is in
    let le : shape.ways * suc (line % shape.sets) ≤ shape.ways * shape.sets = mul-le-mul_left shape.ways (omega (arith, below)) in
    let next : shape.ways * suc (line % shape.sets) ≡ shape.ways * (line % shape.sets) + shape.ways = mul-suc shape.ways (line % shape.sets) in
    record {
      some_set = below;
      some_way = some.1;
      at_is = at_is;
      k_is = omega arith;
      all = all;
      few = few;
      u_is = u_is ∙ ap (λ a. get_or used (line % a) u) s_is;
      inside = omega arith;
    }

module _ (shape : Dimensions) (used places : List ℕ) (line at k u : ℕ) (ready : IsReady shape used places line at k u) where
  fits : u ≤ shape.ways
  fits = let h : get_or used (line % shape.sets) u ≤ shape.ways = ready.few (line % shape.sets) u (omega (arith, ready.some_set, ready.all)) in let e = ready.u_is in omega arith

  -- the used places of the set are what it holds
  row_is : (accesses : List ℕ) → CacheStandsFor (held shape used places) accesses → take u (take k (drop at places)) ≡ recent shape (line % shape.sets) accesses
  row_is accesses stands =
      let few = fits in
      let k_is = ready.k_is in
      take-take u k (drop at places) (omega arith)
      ∙ ap₂ (λ n from. take n (drop from places)) ready.u_is ready.at_is
      ∙ sym (at-lines_of shape.ways used places (line % shape.sets) u (omega (arith, ready.some_set, ready.all)))
      ∙ stands.each (line % shape.sets) ready.some_set

  pub access_misses : (accesses : List ℕ) (result : Bool) → CacheStandsFor (held shape used places) accesses → result ≡ not (was_accessed line (take u (take k (drop at places)))) → result ≡ misses shape accesses line
  access_misses accesses result stands is =
      is ∙ ap (λ row. not (was_accessed line row)) (row_is accesses stands) ∙ misses_is shape line accesses

  pub row-length : length (take k (drop at places)) ≡ k
  row-length =
      let left : length (drop at places) ≡ length places - at = length-drop at places in
      let inside = ready.inside in
      length-take-le k (drop at places) (omega arith)

  pub access_stands : (accesses row new_used new_places : List ℕ) (u' : ℕ) → CacheStandsFor (held shape used places) accesses
      → take u' row ≡ touched (length (take k (drop at places))) line (take u (take k (drop at places)))
      → length row ≡ length (take k (drop at places)) → u' ≤ length (take k (drop at places))
      → new_used ≡ slice_set used (line % shape.sets) u' → new_places ≡ written at k places row → CacheStandsFor (held shape new_used new_places) (line ∷ accesses)
  access_stands accesses row new_used new_places u' stands is long most used_is places_is =
      let set = line % shape.sets in
      let k_is = ready.k_is in
      let at_is = ready.at_is in
      let size = row-length in
      let within = ready.inside in
      let rows = lines_of shape.ways used places in
      let now : take u' row ≡ recent shape (line % shape.sets) (line ∷ accesses) =
      is ∙ ap₂ (λ w lines. touched w line lines) (row-length ∙ ready.k_is) (row_is accesses stands) ∙ sym (recent_is shape.sets shape.ways line accesses ready.some_way) in
      let here : line % shape.sets < length used = omega (arith, ready.some_set, ready.all) in
      let sets_are : lines_of shape.ways new_used new_places ≡ slice_set (lines_of shape.ways used places) (line % shape.sets) (take u' row) =
      ap₂ (λ us ps. lines_of shape.ways us ps) used_is (places_is ∙ ap₂ (λ a b. written a b places row) ready.at_is ready.k_is)
      ∙ set-lines_of shape.ways used places row (line % shape.sets) u' (omega arith) here ready.few (omega arith) (omega arith) in
      let many : length (lines_of shape.ways used places) ≡ length used = length-lines_of shape.ways used places in
      let each : (other : ℕ) → other < shape.sets → get_or (slice_set (lines_of shape.ways used places) (line % shape.sets) (take u' row)) other [] ≡ recent shape other (line ∷ accesses) =
      λ other lt. by_test other lt (nat_eq (line % shape.sets) other) refl now (omega arith) in
      record {
        all = ap length sets_are ∙ length-set (lines_of shape.ways used places) (line % shape.sets) (take u' row) ∙ stands.all;
        each = λ other lt. ap (λ sets. get_or sets other []) sets_are ∙ each other lt;
      }
    where
      by_test : (other : ℕ) → other < shape.sets → (b : Bool) → nat_eq (line % shape.sets) other ≡ b → take u' row ≡ recent shape (line % shape.sets) (line ∷ accesses) → line % shape.sets < length (lines_of shape.ways used places)
          → get_or (slice_set (lines_of shape.ways used places) (line % shape.sets) (take u' row)) other [] ≡ recent shape other (line ∷ accesses)
      by_test other lt true e now here =
          let same : line % shape.sets ≡ other = eqb-true (line % shape.sets) other e in
          ap (λ o. get_or (slice_set (lines_of shape.ways used places) (line % shape.sets) (take u' row)) o []) (sym same)
          ∙ get_or-set_same (lines_of shape.ways used places) (line % shape.sets) (take u' row) [] here
          ∙ now ∙ ap (λ o. recent shape o (line ∷ accesses)) same
      by_test other lt false e now here =
          get_or-set_other (lines_of shape.ways used places) (line % shape.sets) other (take u' row) [] (apart other e)
          ∙ stands.each other lt ∙ ap (λ lines. take shape.ways (different lines)) (sym (others_stay shape.sets other line accesses e))
        where
          apart : (other : ℕ) → nat_eq (line % shape.sets) other ≡ false → other ≢ line % shape.sets
          apart other e = grind (arith, nat_tests)
