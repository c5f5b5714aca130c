-- The entries of a symbol table, and the names that they give.
use Rattle.std.proofs.Common.{◌≡◌, ℕ, suc, ◌+◌, ◌*◌, ◌/◌, ◌%◌, ◌^◌, ◌<◌, true, false, not, eqb, leb, ◌&&◌, List, [], ◌∷◌, ◌++◌, length, get_or, map, take, drop, Option, Some, None, if◌then◌else◌, refl, sym, ap, ap₂, ◌∙◌, arith, ne_eqb, append_assoc, length-append}
use Rattle.std.specs.List.{All, before_first, cons_option, filter_map, flat_map, list_all, list_any, position_or_len, range_with_len}
use Rattle.std.specs.Option.{option_map}
use Rattle.std.proofs.Math.Seq.{drop-append_seam, get_or-append_seam, take-append_seam}
use Rattle.std.proofs.lemmas.Bool.{and_parts, leb-true, or_right}
use Rattle.std.proofs.lemmas.List.{drop-drop, get_or-drop, get_or_append_left}
use Rattle.std.proofs.lemmas.List.Sums.{AllPass-from_list_all, position_or_len_is}
use Rattle.guest_words.specs.Names.{is_dash, is_name, is_visible}
use Rattle.byteorder.specs.Endian.{little_number}
use Rattle.elf_image.specs.Headers.{half_at, word_at}
use Rattle.elf_image.specs.Symbols.{is_zero, name_in, rank_of, symbol_at, symbol_of}
use Rattle.rv_asm.specs.declared.executable.Symbol.{Symbol}
use Rattle.rv_asm.specs.Executable.{string_of, symbol_entries, symbol_entry}
use Rattle.rv_asm.specs.Fields.{bytes_of, symbol_fields}
use Rattle.written_images.specs.Written.{IsRoutine}
use Rattle.written_images.proofs.Headers.{word_back}

-- the type of a value that may be missing
abbrev pub TypeOf : {X : Type 0} → Option X → Type 0
TypeOf {X = X} o = X

-- a symbol as it is read
abbrev pub Read : Type 0
Read = TypeOf (symbol_of [] 0)

abbrev pub read : Symbol → Read
read s = record { value = s.at; rank = 0; name = s.name }

-- no byte of a name is zero
not_zero : (name : List ℕ) → is_name name ≡ true → (k d : ℕ) → k < length name → is_zero (get_or name k d) ≡ false
not_zero name is k d inside =
    let visible = and_parts (not (is_dash name) && leb 1 (length name) && leb (length name) 1024) (list_all is_visible name) is in
    let low = leb-true 0x21 (get_or name k d) (and_parts (leb 0x21 (get_or name k d)) _ (AllPass-from_list_all is_visible name visible.1 k d inside)).0 in
    ne_eqb (get_or name k d) 0 (omega (arith, low))

-- a name ends before the zero byte behind it
ends : (name more : List ℕ) → is_name name ≡ true → before_first is_zero (name ++ 0 ∷ more) ≡ name
ends name more is =
    let here : position_or_len is_zero (name ++ 0 ∷ more) ≡ length name = position_or_len_is is_zero (name ++ 0 ∷ more) (length name) 0
    (omega (arith, length-append name (0 ∷ more)))
    (λ k low. rw (get_or_append_left name (0 ∷ more) 0 k low) (not_zero name is k 0 low))
    (λ inside. rw (get_or-append_seam name 0 more 0) refl) in
    ap (λ n. take n (name ++ 0 ∷ more)) here ∙ take-append_seam name (0 ∷ more)

has_end : (name more : List ℕ) → list_any is_zero (name ++ 0 ∷ more) ≡ true
has_end [] more = refl
has_end (b ∷ name) more = or_right (is_zero b) (list_any is_zero (name ++ 0 ∷ more)) (has_end name more)

name_is : (strings name more : List ℕ) (offset : ℕ) → drop offset strings ≡ name ++ 0 ∷ more → is_name name ≡ true → name_in strings offset ≡ Some name
unfolding name_in
name_is strings name more offset behind is = rw (behind, has_end name more, ends name more is, is) refl

-- the symbol of an entry, by its fields
abbrev entry_of : List ℕ → ℕ → ℕ → ℕ → ℕ → Option Read
entry_of strings info section value name =
    if eqb (info % 16) 2 && not (eqb section 0)
    then option_map (λ n. record { value = value; rank = rank_of (info / 16); name = n }) (name_in strings name)
    else None

-- the symbol at a place, by the bytes from there on
pub moved : (file strings : List ℕ) (at : ℕ) → symbol_at file strings at ≡ symbol_at (drop at file) strings 0
unfolding symbol_at half_at word_at
moved file strings at = sym (λ i.
    entry_of strings (get_or-drop at file 12 0 i) (little_number 2 (drop-drop 14 at file i)) (little_number 4 (drop-drop 4 at file i)) (word_at file at))

entry_is : (strings more : List ℕ) (st_name : ℕ) (s : Symbol) → st_name < 2 ^ 32 → s.at < 2 ^ 32 → name_in strings st_name ≡ Some s.name
    → symbol_at (bytes_of (symbol_fields (symbol_entry st_name s)) ++ more) strings 0 ≡ Some (read s)
unfolding symbol_at half_at word_at
entry_is strings more st_name s low fits named =
    ap₂ (λ value name. entry_of strings 0x12 0xfff1 value name) (word_back s.at fits) (word_back st_name low)
    ∙ ap (option_map (λ n. record { value = s.at; rank = 0; name = n })) named

-- the entries of symbols, one after another
module _ (file strings more : List ℕ) (base : ℕ) (long : length strings < 2 ^ 32) where
  -- the entry at this place, whose name stands behind these strings
  module _ (x : Symbol) (xs : List Symbol) (front : List ℕ) (k : ℕ)
      (behind : drop (base + 16 * k) file ≡ symbol_entries (length front) (x ∷ xs) ++ more)
      (named : strings ≡ front ++ flat_map string_of (x ∷ xs)) where
    next_entries : drop (base + 16 * (k + 1)) file ≡ symbol_entries (length (front ++ string_of x)) xs ++ more
    next_entries =
        let later : base + 16 * (k + 1) ≡ (base + 16 * k) + 16 = omega arith in
        ap (λ n. drop n file) later ∙ sym (drop-drop 16 (base + 16 * k) file) ∙ ap (drop 16) behind
        ∙ ap (λ n. symbol_entries n xs ++ more) (sym (length-append front (string_of x)))

    next_strings : strings ≡ (front ++ string_of x) ++ flat_map string_of xs
    next_strings = named ∙ sym (append_assoc front (string_of x) (flat_map string_of xs))

    first_is : IsRoutine x → symbol_at file strings (base + 16 * k) ≡ Some (read x)
    first_is r =
        let low : length front < 2 ^ 32 = omega (arith, long, ap length named, length-append front (flat_map string_of (x ∷ xs))) in
        let name = ap (drop (length front)) named ∙ drop-append_seam front (flat_map string_of (x ∷ xs)) ∙ append_assoc x.name (0 ∷ []) (flat_map string_of xs) in
        moved file strings (base + 16 * k)
        ∙ ap (λ bytes. symbol_at bytes strings 0) (behind ∙ append_assoc (bytes_of (symbol_fields (symbol_entry (length front) x))) (symbol_entries (length front + length (string_of x)) xs) more)
        ∙ entry_is strings (symbol_entries (length front + length (string_of x)) xs ++ more) (length front) x low r.address
        (name_is strings x.name (flat_map string_of xs) (length front) name r.name)

  pub entries_read : (xs : List Symbol) (front : List ℕ) (k : ℕ) → All IsRoutine xs
      → drop (base + 16 * k) file ≡ symbol_entries (length front) xs ++ more
      → strings ≡ front ++ flat_map string_of xs
      → filter_map (λ i. symbol_at file strings (base + 16 * i)) (range_with_len k (length xs)) ≡ map read xs
  entries_read [] front k all behind named = refl
  entries_read (x ∷ xs) front k all behind named =
      ap₂ (λ o rest. cons_option o rest) (first_is x xs front k behind named (all 0 x (omega arith)))
      (entries_read xs (front ++ string_of x) (k + 1) (λ j d inside. all (suc j) d (omega arith))
      (next_entries x xs front k behind named) (next_strings x xs front k behind named))
