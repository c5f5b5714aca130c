-- What a cache is after line accesses, one after another.
use Rattle.std.proofs.Common.{◌≡◌, ℕ, ◌+◌, ◌≤◌, Bool, true, false, cond, List, [], ◌∷◌, ◌++◌, length, reverse, refl, sym, ap, ◌∙◌, subst, arith, append_assoc, length-append}
use Rattle.std.specs.List.{count_by, range_with_len}
use Rattle.std.proofs.lemmas.List.{reverse-append}
use Rattle.std.proofs.lemmas.List.Sums.{sum_by_push}
use Rattle.trace_model.proofs.Bounds.{range_with_len_more}
use Rattle.cache_lines.specs.Shapes.{Dimensions}
use Rattle.cache_lines.specs.Held.{Held}
use Rattle.cache_lines.specs.Kept.{CacheStandsFor}
use Rattle.cache_lines.specs.Misses.{misses}
use Rattle.cache_profile.specs.LineAccesses.{missed}

-- how many of them miss
abbrev pub count_missed : Dimensions → List ℕ → List ℕ → ℕ
count_missed shape earlier lines = count_by (λ m. m) (missed shape earlier lines)

-- The lines were accessed, in this order, and so many of them missed.
pub record AreAccessed (old new : Held) (lines : List ℕ) (missing : ℕ) : Type 0 where
  pub shape : new.shape ≡ old.shape
  pub few : missing ≤ length lines
  pub count : (earlier : List ℕ) → CacheStandsFor old earlier → missing ≡ count_missed old.shape earlier lines
  pub stands : (earlier : List ℕ) → CacheStandsFor old earlier → CacheStandsFor new (reverse lines ++ earlier)

later : (x : ℕ) (lines earlier : List ℕ) → reverse (x ∷ lines) ++ earlier ≡ reverse lines ++ x ∷ earlier
later x lines earlier = ap (λ ls. ls ++ earlier) (reverse-append (x ∷ []) lines) ∙ append_assoc (reverse lines) (x ∷ []) earlier

missed_push : (shape : Dimensions) (earlier lines : List ℕ) (line : ℕ) →
    missed shape earlier (lines ++ line ∷ []) ≡ missed shape earlier lines ++ misses shape (reverse lines ++ earlier) line ∷ []
missed_push shape earlier [] line = refl
missed_push shape earlier (x ∷ lines) line =
    ap (λ ms. misses shape earlier x ∷ ms)
    (missed_push shape (x ∷ earlier) lines line
    ∙ ap (λ before. missed shape (x ∷ earlier) lines ++ misses shape before line ∷ []) (sym (later x lines earlier)))

count_push : (shape : Dimensions) (earlier lines : List ℕ) (line : ℕ) →
    count_missed shape earlier (lines ++ line ∷ []) ≡ count_missed shape earlier lines + cond (misses shape (reverse lines ++ earlier) line) 1 0
count_push shape earlier lines line =
    ap (count_by (λ m. m)) (missed_push shape earlier lines line)
    ∙ sum_by_push (λ m. cond m 1 0) (missed shape earlier lines) (misses shape (reverse lines ++ earlier) line)

one_or_none : (b : Bool) → cond b 1 0 ≤ 1
one_or_none true = omega arith
one_or_none false = omega arith

-- one more line
pub one_more : (old now new : Held) (lines : List ℕ) (missing line : ℕ) (miss : Bool) → AreAccessed old now lines missing → new.shape ≡ now.shape →
    ((accesses : List ℕ) → CacheStandsFor now accesses → miss ≡ misses now.shape accesses line) →
    ((accesses : List ℕ) → CacheStandsFor now accesses → CacheStandsFor new (line ∷ accesses)) →
    AreAccessed old new (lines ++ line ∷ []) (missing + cond miss 1 0)
one_more old now new lines missing line miss before same tells after = record {
  shape = same ∙ before.shape;
  few = omega (arith, before.few, one_or_none miss, length-append lines (line ∷ []));
  count = λ earlier stands.
      let is : miss ≡ misses old.shape (reverse lines ++ earlier) line =
      tells (reverse lines ++ earlier) (before.stands earlier stands) ∙ ap (λ shape. misses shape (reverse lines ++ earlier) line) before.shape in
      ap (λ n. n + cond miss 1 0) (before.count earlier stands)
      ∙ ap (λ m. count_missed old.shape earlier lines + cond m 1 0) is
      ∙ sym (count_push old.shape earlier lines line);
  stands = λ earlier stands.
      subst (λ accesses. CacheStandsFor new accesses) (sym (ap (λ ls. ls ++ earlier) (reverse-append lines (line ∷ []))))
      (after (reverse lines ++ earlier) (before.stands earlier stands));
}

-- one more line of a row
pub one_further : (old now new : Held) (first k missing m : ℕ) (miss : Bool) → AreAccessed old now (range_with_len first k) missing → new.shape ≡ now.shape →
    ((accesses : List ℕ) → CacheStandsFor now accesses → miss ≡ misses now.shape accesses (first + k)) →
    ((accesses : List ℕ) → CacheStandsFor now accesses → CacheStandsFor new ((first + k) ∷ accesses)) →
    m ≡ missing + cond miss 1 0 → AreAccessed old new (range_with_len first (k + 1)) m
one_further old now new first k missing m miss before same tells after is =
    subst (λ n. AreAccessed old new (range_with_len first (k + 1)) n) (sym is)
    (subst (λ ls. AreAccessed old new ls (missing + cond miss 1 0)) (sym (range_with_len_more first k))
    (one_more old now new (range_with_len first k) missing (first + k) miss before same tells after))

pub accessed_all : (old new : Held) (first k count missing : ℕ) → k ≡ count → AreAccessed old new (range_with_len first k) missing →
    (earlier : List ℕ) → CacheStandsFor old earlier → CacheStandsFor new (reverse (range_with_len first count) ++ earlier)
accessed_all old new first k count missing is before earlier stands =
    subst (λ n. CacheStandsFor new (reverse (range_with_len first n) ++ earlier)) is (before.stands earlier stands)
