-- The name at an offset of a string table, by the place of the first zero byte within the longest name.
use Rattle.std.proofs.Common.{◌≡◌, ℕ, ◌+◌, ◌-◌, ◌<◌, ◌≤◌, min, Bool, true, false, not, ◌&&◌, leb, List, length, get_or, take, drop, Option, Some, None, if◌then◌else◌, refl, sym, ap, subst, ◌∙◌, inl, inr, arith}
use Rattle.std.specs.List.{before_first, list_all, list_any, position, position_or_len}
use Rattle.std.proofs.lemmas.Bool.{and_left, and_parts, and_right, cases_lt, le-ltb, lt-leb, lt-ltb}
use Rattle.std.proofs.lemmas.List.{drop_all, get_or-take, get_or_default, length-drop, length-take, take-take}
use Rattle.std.proofs.lemmas.List.Folds.{length-prefix_len, list_any_at, list_any_none}
use Rattle.std.proofs.lemmas.List.Quantifiers.{position-Some}
use Rattle.std.proofs.lemmas.List.Sums.{fails_before_first, passes_at_first, position_or_len_is}
use Rattle.memchr.specs.Find.{IsFirstByte, is_byte}
use Rattle.guest_words.specs.declared.limits.TheConstants.{NAME_BYTES}
use Rattle.guest_words.specs.Names.{is_dash, is_name, is_visible}
use Rattle.elf_image.specs.Symbols.{is_zero, name_in}

-- bytes that are too many are no name
too_long : (bytes : List ℕ) → NAME_BYTES < length bytes → is_name bytes ≡ false
too_long bytes long = and_left (not (is_dash bytes) && leb 1 (length bytes) && leb (length bytes) NAME_BYTES) (list_all is_visible bytes)
    (and_right (not (is_dash bytes) && leb 1 (length bytes)) _ (lt-leb _ _ long))

-- nothing passes before the place of the first
none_passes : {X : Type 0} (p : X → Bool) (xs : List X) → position p xs ≡ None → length xs ≤ position_or_len p xs
none_passes p xs none = elim (cases_lt (position_or_len p xs) (length xs)) as (λ _. length xs ≤ position_or_len p xs) [
  | inl inside ↦ cc (none, lt-ltb (position_or_len p xs) (length xs) inside)
  | inr past ↦ past
]

stays_none : {X : Type 0} (test : Bool) (x : X) → test ≡ false → (if test then Some x else None) ≡ None
stays_none true x h = cc
stays_none false x h = refl

-- what a search for a zero byte finds is the place of the first
fails : (test : Bool) → (test ≡ true → ⊥) → test ≡ false
fails true h = absurd (h refl)
fails false h = refl

found_if : (test : Bool) (k : ℕ) → test ≡ true → Some k ≡ (if test then Some k else None)
found_if true k h = refl
found_if false k h = cc

pub first_is : (bytes : List ℕ) (found : Option ℕ) → IsFirstByte (is_byte 0) bytes found → found ≡ position is_zero bytes
first_is bytes None nowhere =
    let past : position_or_len is_zero bytes ≡ length bytes = position_or_len_is is_zero bytes (length bytes) 0 (omega arith) (λ k low. fails _ (nowhere k (omega arith) low)) (λ low. absurd (omega (arith, low))) in
    sym (stays_none _ (position_or_len is_zero bytes) (le-ltb _ _ (omega (arith, past))))
first_is bytes (Some k) here =
    let place : position_or_len is_zero bytes ≡ k = position_or_len_is is_zero bytes k 0 (omega (arith, here.0.high)) (λ i low. fails _ (here.0.before i (omega arith) low)) (λ _. here.1) in
    rw place (found_if _ k (lt-ltb k (length bytes) here.0.high))

module _ (strings : List ℕ) (offset n : ℕ) (inside : offset < length strings) (window : n ≡ min (length strings) (offset + NAME_BYTES + 1) - offset) where
  some_left : n ≤ length (drop offset strings)
  some_left = omega (arith, length-drop offset strings)

  within : length (take n (drop offset strings)) ≡ n
  within = omega (arith, length-take n (drop offset strings), some_left)

  -- a zero byte within the longest name ends it
  pub ends_within : (len : ℕ) → position is_zero (take n (drop offset strings)) ≡ Some len
      → (if is_name (take len (take n (drop offset strings))) then Some (take len (take n (drop offset strings))) else None) ≡ name_in strings offset
  unfolding name_in
  ends_within len found =
      let at = position-Some is_zero (take n (drop offset strings)) len 0 found in
      let short : len < n = omega (arith, at.0, within) in
      let here : is_zero (get_or (drop offset strings) len 0) ≡ true = ap is_zero (sym (get_or-take n (drop offset strings) len 0 short)) ∙ at.1 in
      let place : position_or_len is_zero (drop offset strings) ≡ len = position_or_len_is is_zero (drop offset strings) len 0 (omega (arith, some_left, short))
      (λ k below. ap is_zero (sym (get_or-take n (drop offset strings) k 0 (omega arith))) ∙ at.2 k below) (λ _. here) in
      let name : take len (take n (drop offset strings)) ≡ before_first is_zero (drop offset strings) =
      take-take len n (drop offset strings) (omega (arith, short)) ∙ ap (λ k. take k (drop offset strings)) (sym place) in
      let ended : list_any is_zero (drop offset strings) ≡ true = list_any_at is_zero (drop offset strings) len 0 (omega (arith, some_left, short)) here in
      rw (ended, name) refl

  -- no zero byte there is no name
  pub ends_nowhere : position is_zero (take n (drop offset strings)) ≡ None → name_in strings offset ≡ None
  unfolding name_in
  ends_nowhere none =
      let past : n ≤ position_or_len is_zero (take n (drop offset strings)) = omega (arith, none_passes is_zero (take n (drop offset strings)) none, within) in
      let full : (k : ℕ) → k < n → is_zero (get_or (drop offset strings) k 0) ≡ false =
      λ k below. ap is_zero (sym (get_or-take n (drop offset strings) k 0 below)) ∙ fails_before_first is_zero (take n (drop offset strings)) k 0 (omega (arith, past)) in
      let name = before_first is_zero (drop offset strings) in
      elim (cases_lt n (length (drop offset strings))) as (λ _. (if list_any is_zero (drop offset strings) && is_name name then Some name else None) ≡ None) [
        | inl cut ↦
            let far : n ≤ position_or_len is_zero (drop offset strings) = elim (cases_lt (position_or_len is_zero (drop offset strings)) n) as (λ _. n ≤ position_or_len is_zero (drop offset strings)) [
              | inl near ↦ cc (full _ near, passes_at_first is_zero (drop offset strings) 0 (omega (arith, near, some_left)))
              | inr past ↦ past
            ] in
            let long : length name ≡ position_or_len is_zero (drop offset strings) = length-prefix_len (λ b. not (is_zero b)) (drop offset strings) in
            stays_none _ name (and_right (list_any is_zero (drop offset strings)) (is_name name) (too_long name (omega (arith, long, far, cut, length-drop offset strings))))
        | inr whole ↦ stays_none _ name (and_left (list_any is_zero (drop offset strings)) (is_name name) (list_any_none is_zero (drop offset strings)
            (λ k d low. ap is_zero (get_or_default (drop offset strings) k d 0 low) ∙ full k (omega (arith, low, whole)))))
      ]

-- nothing begins past the end
pub begins_nowhere : (strings : List ℕ) (offset : ℕ) → length strings ≤ offset → name_in strings offset ≡ None
unfolding name_in
begins_nowhere strings offset past = rw (drop_all offset strings past) refl

-- a name that is there
named_if : (test : Bool) (name found : List ℕ) → (if test then Some name else None) ≡ Some found → (test ≡ true) × (name ≡ found)
named_if true name found is = (refl, cc is)
named_if false name found is = absurd (cc is)

-- it is the first bytes behind the offset, as many as it has
pub name_there : (strings : List ℕ) (offset : ℕ) (name : List ℕ) → name_in strings offset ≡ Some name →
    (take (length name) (drop offset strings) ≡ name) × (offset + length name ≤ length strings) × (is_name name ≡ true)
unfolding name_in
name_there strings offset name is =
    let rest = drop offset strings in
    let whole = before_first is_zero rest in
    let parts = named_if (list_any is_zero rest && is_name whole) whole name is in
    let long : length whole ≡ position_or_len is_zero rest = length-prefix_len (λ b. not (is_zero b)) rest in
    let size : length name ≡ position_or_len is_zero rest = sym (ap length parts.1) ∙ long in
    let named : is_name name ≡ true = subst (λ n. is_name n ≡ true) parts.1 (and_parts (list_any is_zero rest) (is_name whole) parts.0).1 in
    let short = length-take (position_or_len is_zero rest) rest in (
      ap (λ n. take n rest) size ∙ parts.1,
      elim (cases_lt offset (length strings)) as (λ _. offset + length name ≤ length strings) [
        | inl inside ↦ omega (arith, inside, size, long, short, length-drop offset strings)
        | inr past ↦ absurd (cc (is, begins_nowhere strings offset past))
      ],
      named,
    )
