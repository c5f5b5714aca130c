-- Where a thread stands in a table, and what each thread reads after a change.
use Rattle.std.proofs.Common.{◌≡◌, ℕ, zero, suc, ◌<◌, Bool, true, false, cond, List, [], ◌∷◌, ◌++◌, length, map, get_or, set, Option, Some, None, refl, ap, sym, ◌∙◌, arith, All, not}
use Rattle.std.specs.Prelude.{◌==◌, nat_lt}
use Rattle.std.specs.List.{position, position_or_len}
use Rattle.std.specs.Option.{option_map}
use Rattle.std.proofs.lemmas.Bool.{eqb-true}
use Rattle.std.proofs.lemmas.Bool.Decides.{nat_tests}
use Rattle.std.proofs.lemmas.List.{length-map}
use Rattle.std.proofs.lemmas.List.Quantifiers.{position-Some}
use Rattle.std.proofs.lemmas.List.Elements.{All-head, All-tail, All-cons}
use Rattle.guest_words.specs.ByThread.{IsRising, numbers, value_of, with_value, without_thread}

-- three numbers of which two are equal differ from the third or do not together
same_tests : (n t u : ℕ) → (n == t) ≡ true → (n == u) ≡ (t == u)
same_tests n t u is = ap (λ m. m == u) (eqb-true n t is)

not_both : (n t u : ℕ) → (n == t) ≡ false → (t == u) ≡ true → (n == u) ≡ true → ⊥
not_both n t u isnt is is' = let same : (n == t) ≡ true = grind (arith, nat_tests, is, is') in cc

-- ---- rising numbers
rising_tail : (n : ℕ) (ns : List ℕ) → IsRising (n ∷ ns) → IsRising ns
rising_tail n [] rising = tt
rising_tail n (m ∷ ns) rising = rising.1

rising_skip : (n m : ℕ) (ns : List ℕ) → IsRising (n ∷ m ∷ ns) → IsRising (n ∷ ns)
rising_skip n m [] rising = tt
rising_skip n m (k ∷ ns) rising = (omega (arith, rising.0, rising.1.0), rising.1.1)

module _ {T : Type 0} where
  pub rising_pushed : (xs : List (ℕ × T)) (t : ℕ) (v : T) → IsRising (numbers xs) → All (λ n. n < t) (numbers xs) → IsRising (numbers (xs ++ (t, v) ∷ []))
  rising_pushed [] t v rising below = tt
  rising_pushed (x ∷ []) t v rising below = (All-head (λ n. n < t) x.0 [] below, tt)
  rising_pushed (x ∷ y ∷ xs) t v rising below = (rising.0, rising_pushed (y ∷ xs) t v rising.1 (All-tail (λ n. n < t) x.0 (numbers (y ∷ xs)) below))

  rising_filter : (n : ℕ) (xs : List (ℕ × T)) (t : ℕ) → IsRising (n ∷ numbers xs) → IsRising (n ∷ numbers (without_thread xs t))
  rising_filter n [] t rising = tt
  rising_filter n (x ∷ xs) t rising = by (x.0 == t) (rising_filter n xs t (rising_skip n x.0 (numbers xs) rising)) (rising_filter x.0 xs t rising.1)
    where
      by : (b : Bool) → IsRising (n ∷ numbers (without_thread xs t)) → IsRising (x.0 ∷ numbers (without_thread xs t)) →
          IsRising (n ∷ numbers (cond (not b) (x ∷ without_thread xs t) (without_thread xs t)))
      by true skipped kept = skipped
      by false skipped kept = (rising.0, kept)

  pub rising_without : (xs : List (ℕ × T)) (t : ℕ) → IsRising (numbers xs) → IsRising (numbers (without_thread xs t))
  rising_without [] t rising = tt
  rising_without (x ∷ xs) t rising = by (x.0 == t) (rising_without xs t (rising_tail x.0 (numbers xs) rising)) (rising_filter x.0 xs t rising)
    where
      by : (b : Bool) → IsRising (numbers (without_thread xs t)) → IsRising (x.0 ∷ numbers (without_thread xs t)) →
          IsRising (numbers (cond (not b) (x ∷ without_thread xs t) (without_thread xs t)))
      by true skipped kept = skipped
      by false skipped kept = kept

  -- a write changes no number
  pub numbers-with : (xs : List (ℕ × T)) (t : ℕ) (v : T) → numbers (with_value xs t v) ≡ numbers xs
  numbers-with [] t v = refl
  numbers-with (x ∷ xs) t v = by (x.0 == t) (numbers-with xs t v)
    where
      by : (b : Bool) → numbers (with_value xs t v) ≡ numbers xs → numbers (cond b ((x.0, v) ∷ xs) (x ∷ with_value xs t v)) ≡ x.0 ∷ numbers xs
      by true rest = refl
      by false rest = ap (λ ns. x.0 ∷ ns) rest

  pub length-with : (xs : List (ℕ × T)) (t : ℕ) (v : T) → length (with_value xs t v) ≡ length xs
  length-with xs t v =
      sym (length-map (with_value xs t v) (λ x. x.0)) ∙ ap length (numbers-with xs t v) ∙ length-map xs (λ x. x.0)

  pub All-numbers-without : (P : ℕ → Type 0) (xs : List (ℕ × T)) (t : ℕ) → All P (numbers xs) → All P (numbers (without_thread xs t))
  All-numbers-without P [] t all = all
  All-numbers-without P (x ∷ xs) t all = by (x.0 == t) (All-numbers-without P xs t (All-tail P x.0 (numbers xs) all))
    where
      by : (b : Bool) → All P (numbers (without_thread xs t)) → All P (numbers (cond (not b) (x ∷ without_thread xs t) (without_thread xs t)))
      by true rest = rest
      by false rest = All-cons P x.0 (numbers (without_thread xs t)) (All-head P x.0 (numbers xs) all) rest

  -- ---- what each thread reads
  -- after a write
  pub value_of-with : (xs : List (ℕ × T)) (t : ℕ) (v w : T) → value_of xs t ≡ Some w → (u : ℕ) → value_of (with_value xs t v) u ≡ cond (t == u) (Some v) (value_of xs u)
  value_of-with [] t v w here u = absurd (cc)
  value_of-with (x ∷ xs) t v w here u = by (x.0 == t) (t == u) (x.0 == u) refl refl refl here (λ later. value_of-with xs t v w later u)
    where
      by : (a b d : Bool) → (x.0 == t) ≡ a → (t == u) ≡ b → (x.0 == u) ≡ d → cond a (Some x.1) (value_of xs t) ≡ Some w →
          (value_of xs t ≡ Some w → value_of (with_value xs t v) u ≡ cond b (Some v) (value_of xs u)) →
          value_of (cond a ((x.0, v) ∷ xs) (x ∷ with_value xs t v)) u ≡ cond b (Some v) (cond d (Some x.1) (value_of xs u))
      by true true d is is' is'' here later = ap (λ c. cond c (Some v) (value_of xs u)) (same_tests x.0 t u is ∙ is')
      by true false true is is' is'' here later = absurd (let both : (x.0 == u) ≡ false = same_tests x.0 t u is ∙ is' in cc)
      by true false false is is' is'' here later = ap (λ c. cond c (Some v) (value_of xs u)) is''
      by false true true is is' is'' here later = absurd (not_both x.0 t u is is' is'')
      by false true false is is' is'' here later = ap (λ c. cond c (Some x.1) (value_of (with_value xs t v) u)) is'' ∙ later here
      by false false true is is' is'' here later = ap (λ c. cond c (Some x.1) (value_of (with_value xs t v) u)) is''
      by false false false is is' is'' here later = ap (λ c. cond c (Some x.1) (value_of (with_value xs t v) u)) is'' ∙ later here

  -- with one thread more
  pub value_of-pushed : (xs : List (ℕ × T)) (t : ℕ) (v : T) → All (λ n. n < t) (numbers xs) → (u : ℕ) → value_of (xs ++ (t, v) ∷ []) u ≡ cond (t == u) (Some v) (value_of xs u)
  value_of-pushed [] t v below u = refl
  value_of-pushed (x ∷ xs) t v below u =
      let low : x.0 < t = All-head (λ n. n < t) x.0 (numbers xs) below in
      let apart : (x.0 == t) ≡ false = grind (arith, nat_tests, low) in
      by apart (t == u) (x.0 == u) refl refl (value_of-pushed xs t v (All-tail (λ n. n < t) x.0 (numbers xs) below) u)
    where
      by : (x.0 == t) ≡ false → (b d : Bool) → (t == u) ≡ b → (x.0 == u) ≡ d → value_of (xs ++ (t, v) ∷ []) u ≡ cond b (Some v) (value_of xs u) →
          cond d (Some x.1) (value_of (xs ++ (t, v) ∷ []) u) ≡ cond b (Some v) (cond d (Some x.1) (value_of xs u))
      by apart true true is is' later = absurd (not_both x.0 t u apart is is')
      by apart true false is is' later = later
      by apart false true is is' later = refl
      by apart false false is is' later = later

  -- and with one less
  pub value_of-without : (xs : List (ℕ × T)) (t u : ℕ) → value_of (without_thread xs t) u ≡ cond (t == u) None (value_of xs u)
  value_of-without [] t u = by (t == u)
    where
      by : (b : Bool) → value_of {T = T} [] u ≡ cond b None (value_of [] u)
      by true = refl
      by false = refl
  value_of-without (x ∷ xs) t u = by (x.0 == t) (t == u) (x.0 == u) refl refl refl (value_of-without xs t u)
    where
      by : (a b d : Bool) → (x.0 == t) ≡ a → (t == u) ≡ b → (x.0 == u) ≡ d → value_of (without_thread xs t) u ≡ cond b None (value_of xs u) →
          value_of (cond (not a) (x ∷ without_thread xs t) (without_thread xs t)) u ≡ cond b None (cond d (Some x.1) (value_of xs u))
      by true true d is is' is'' later = later
      by true false true is is' is'' later = absurd (let both : (x.0 == u) ≡ false = same_tests x.0 t u is ∙ is' in cc)
      by true false false is is' is'' later = later
      by false true true is is' is'' later = absurd (not_both x.0 t u is is' is'')
      by false true false is is' is'' later = ap (λ c. cond c (Some x.1) (value_of (without_thread xs t) u)) is'' ∙ later
      by false false true is is' is'' later = ap (λ c. cond c (Some x.1) (value_of (without_thread xs t) u)) is''
      by false false false is is' is'' later = ap (λ c. cond c (Some x.1) (value_of (without_thread xs t) u)) is'' ∙ later

  -- a number above all is none of them
  pub value_of-above : (xs : List (ℕ × T)) (t : ℕ) → All (λ n. n < t) (numbers xs) → value_of xs t ≡ None
  value_of-above [] t below = refl
  value_of-above (x ∷ xs) t below =
      let low : x.0 < t = All-head (λ n. n < t) x.0 (numbers xs) below in
      let apart : (x.0 == t) ≡ false = grind (arith, nat_tests, low) in
      ap (λ b. cond b (Some x.1) (value_of xs t)) apart ∙ value_of-above xs t (All-tail (λ n. n < t) x.0 (numbers xs) below)

  -- ---- the place of a thread
  abbrev is_of : ℕ → ℕ × T → Bool
  is_of t x = x.0 == t

  -- what stands at the first place with the number
  pub record IsPlace (xs : List (ℕ × T)) (t k : ℕ) (d : ℕ × T) : Type 0 where
    pub within : k < length xs
    pub value : value_of xs t ≡ Some (get_or xs k d).1
    pub after : (v : T) → set xs k ((get_or xs k d).0, v) ≡ with_value xs t v

  first_of : (xs : List (ℕ × T)) (t k : ℕ) (d : ℕ × T) → k < length xs → is_of t (get_or xs k d) ≡ true → ((j : ℕ) → j < k → is_of t (get_or xs j d) ≡ false) → IsPlace xs t k d
  first_of [] t k d within is before = absurd (omega (arith, within))
  first_of (x ∷ xs) t zero d within is before = record {
    within = within;
    value = ap (λ b. cond b (Some x.1) (value_of xs t)) is;
    after = λ v. sym (ap (λ b. cond b ((x.0, v) ∷ xs) (x ∷ with_value xs t v)) is);
  }
  first_of (x ∷ xs) t (suc k) d within is before =
      let later = first_of xs t k d (omega (arith, within)) is (λ j low. before (suc j) (omega (arith, low))) in
      let isnt : is_of t x ≡ false = before 0 (omega arith) in
      record {
        within = within;
        value = ap (λ b. cond b (Some x.1) (value_of xs t)) isnt ∙ later.value;
        after = λ v. ap (λ ys. x ∷ ys) (later.after v) ∙ sym (ap (λ b. cond b ((x.0, v) ∷ xs) (x ∷ with_value xs t v)) isnt);
      }

  pub place_found : (xs : List (ℕ × T)) (t k : ℕ) (d : ℕ × T) → position (λ x. x.0 == t) xs ≡ Some k → IsPlace xs t k d
  place_found xs t k d found = let first = position-Some (is_of t) xs k d found in first_of xs t k d first.0 first.1 first.2

  -- a thread with no place has no value
  within_some : (xs : List (ℕ × T)) (t : ℕ) (v : T) → value_of xs t ≡ Some v → position_or_len (is_of t) xs < length xs
  within_some [] t v some = absurd (cc)
  within_some (x ∷ xs) t v some = by (is_of t x) refl some (within_some xs t v)
    where
      by : (b : Bool) → is_of t x ≡ b → cond b (Some x.1) (value_of xs t) ≡ Some v → (value_of xs t ≡ Some v → position_or_len (is_of t) xs < length xs) → position_or_len (is_of t) (x ∷ xs) < length (x ∷ xs)
      by true is some later = rw is (omega arith)
      by false is some later = let below : position_or_len (is_of t) xs < length xs = later some in rw is (omega (arith, below))

  pub place_none : (xs : List (ℕ × T)) (t : ℕ) → position (λ x. x.0 == t) xs ≡ None → value_of xs t ≡ None
  place_none xs t none = by (value_of xs t) refl
    where
      by : (o : Option T) → value_of xs t ≡ o → value_of xs t ≡ None
      by None is = is
      by (Some v) is =
          let low : position_or_len (is_of t) xs < length xs = within_some xs t v is in
          let below : nat_lt (position_or_len (is_of t) xs) (length xs) ≡ true = grind (arith, nat_tests, low) in
          let some : position (is_of t) xs ≡ Some (position_or_len (is_of t) xs) = rw below refl in
          let bad : None ≡ Some (position_or_len (is_of t) xs) = sym none ∙ some in absurd (cc)

  -- the value that a thread has changes nothing
  pub with_own : (xs : List (ℕ × T)) (t : ℕ) (v : T) → value_of xs t ≡ Some v → with_value xs t v ≡ xs
  with_own [] t v here = refl
  with_own (x ∷ xs) t v here = by (x.0 == t) here (with_own xs t v)
    where
      by : (b : Bool) → cond b (Some x.1) (value_of xs t) ≡ Some v → (value_of xs t ≡ Some v → with_value xs t v ≡ xs) →
          cond b ((x.0, v) ∷ xs) (x ∷ with_value xs t v) ≡ x ∷ xs
      by true here later = let same : x.1 ≡ v = cc in ap (λ (w : T). (x.0, w) ∷ xs) (sym same)
      by false here later = ap (λ ys. x ∷ ys) (later here)

-- ---- a table of which each value is seen as another
module _ {T U : Type 0} (see : T → U) where
  abbrev pub seen : List (ℕ × T) → List (ℕ × U)
  seen xs = map (λ x. (x.0, see x.1)) xs

  pub value_of-seen : (xs : List (ℕ × T)) (t : ℕ) → value_of (seen xs) t ≡ option_map see (value_of xs t)
  value_of-seen [] t = refl
  value_of-seen (x ∷ xs) t = by (x.0 == t) (value_of-seen xs t)
    where
      by : (b : Bool) → value_of (seen xs) t ≡ option_map see (value_of xs t) →
          cond b (Some (see x.1)) (value_of (seen xs) t) ≡ option_map see (cond b (Some x.1) (value_of xs t))
      by true later = refl
      by false later = later

  pub numbers-seen : (xs : List (ℕ × T)) → numbers (seen xs) ≡ numbers xs
  numbers-seen [] = refl
  numbers-seen (x ∷ xs) = ap (λ ns. x.0 ∷ ns) (numbers-seen xs)

  pub with_value-seen : (xs : List (ℕ × T)) (t : ℕ) (v : T) → seen (with_value xs t v) ≡ with_value (seen xs) t (see v)
  with_value-seen [] t v = refl
  with_value-seen (x ∷ xs) t v = by (x.0 == t) (with_value-seen xs t v)
    where
      by : (b : Bool) → seen (with_value xs t v) ≡ with_value (seen xs) t (see v) →
          seen (cond b ((x.0, v) ∷ xs) (x ∷ with_value xs t v)) ≡ cond b ((x.0, see v) ∷ seen xs) ((x.0, see x.1) ∷ with_value (seen xs) t (see v))
      by true later = refl
      by false later = ap (λ ys. (x.0, see x.1) ∷ ys) later

  pub without_thread-seen : (xs : List (ℕ × T)) (t : ℕ) → seen (without_thread xs t) ≡ without_thread (seen xs) t
  without_thread-seen [] t = refl
  without_thread-seen (x ∷ xs) t = by (x.0 == t) (without_thread-seen xs t)
    where
      by : (b : Bool) → seen (without_thread xs t) ≡ without_thread (seen xs) t →
          seen (cond (not b) (x ∷ without_thread xs t) (without_thread xs t)) ≡ cond (not b) ((x.0, see x.1) ∷ without_thread (seen xs) t) (without_thread (seen xs) t)
      by true later = later
      by false later = ap (λ ys. (x.0, see x.1) ∷ ys) later

  -- a value that is seen as before changes nothing that is seen
  pub seen_same : (xs : List (ℕ × T)) (t : ℕ) (v w : T) → value_of xs t ≡ Some w → see v ≡ see w → seen (with_value xs t v) ≡ seen xs
  seen_same xs t v w here same =
      with_value-seen xs t v ∙ with_own (seen xs) t (see v) (value_of-seen xs t ∙ ap (option_map see) here ∙ ap Some (sym same))
