-- The strings and words of a stack.
use Rattle.std.proofs.Common.{◌≡◌, ℕ, suc, ◌+◌, ◌<◌, ◌≤◌, List, [], ◌∷◌, ◌++◌, length, map, take, ap, append_assoc, sym, refl, ◌∙◌, arith, Some, None, cond, Bool, true, false, string_bytes, String, Global}
use Rattle.std.specs.Prelude.{◌*◌, ◌/◌, is_some, nat_le, slice_index_or}
use Rattle.std.specs.Int.{w32, to_le_bytes}
use Rattle.std.proofs.lemmas.List.{length-append, length-map, take-map}
use Rattle.std.proofs.Math.ListN.{get_or-map}
use Rattle.std.proofs.lemmas.List.Folds.{length-flat_map-take}
use Rattle.std.specs.List.{flat_map}
use Rattle.std.proofs.lemmas.Grind.{flat_map-append}
use Rattle.std.proofs.lemmas.List.Concat.{flat_map-cons}
use Rattle.std.proofs.lemmas.Bool.Decides.{nat_tests}
use Rattle.guest_words.specs.declared.limits.TheConstants.{STACK_PAGES}
use Rattle.guest_machine.specs.Private.Setup.{limited_length}
use Rattle.guest_memory.specs.Memory.{Memory, is_among, with_pages}
use Rattle.elf_image.specs.Image.{Executable}
use Rattle.guest_machine.specs.Start.{auxiliary_vector, stack_page, stack_pointer, stack_rights, stack_words, string_addresses, strings, strings_address}

-- the strings up to one are no longer than all
within_texts : (texts : List (List ℕ)) (i : ℕ) (d : List ℕ) → i < length texts → length (strings (take i texts)) + length (slice_index_or texts i d) + 1 ≤ length (strings texts)
within_texts texts i d within =
    let most = length-flat_map-take (λ (s : List ℕ). s ++ 0 ∷ []) texts i d within in
    let one : length (slice_index_or texts i d ++ 0 ∷ []) ≡ length (slice_index_or texts i d) + 1 = length-append (slice_index_or texts i d) (0 ∷ []) in
    omega (arith, most, one)

pub strings_within : (arguments : List (String Global)) (i : ℕ) (d : String Global) → i < length arguments → length (strings (map string_bytes (take i arguments))) + length (string_bytes (slice_index_or arguments i d)) + 1 ≤ length (strings (map string_bytes arguments))
strings_within arguments i d within =
    let inside : i < length (map string_bytes arguments) = rw length-map within in
    let most = within_texts (map string_bytes arguments) i (string_bytes d) inside in
    let front : take i (map string_bytes arguments) ≡ map string_bytes (take i arguments) = take-map string_bytes i arguments in
    let item : slice_index_or (map string_bytes arguments) i (string_bytes d) ≡ string_bytes (slice_index_or arguments i d) = get_or-map string_bytes arguments i d in
    omega (arith, most, ap (λ ts. length (strings ts)) front, ap length item)

pub too_long : (arguments : List (List ℕ)) → 65536 < length (strings arguments) → None ≡ limited_length arguments
too_long arguments long = by_test (nat_le (length (strings arguments)) 65536) refl
  where
    by_test : (b : Bool) → nat_le (length (strings arguments)) 65536 ≡ b → None ≡ cond b (Some (length (strings arguments))) None
    by_test true e = absurd (grind (arith, nat_tests, e, long))
    by_test false e = refl

-- from no words on: one word, more words and others, byte by byte
pub words_joined : (f : ℕ → List ℕ) (n : ℕ) (ps rest z a b c : List ℕ) → z ≡ [] → a ≡ z ++ f n → b ≡ a ++ flat_map f ps → c ≡ b ++ flat_map f rest → c ≡ flat_map f (n ∷ (ps ++ rest))
words_joined f n ps rest z a b c none one two three =
    three ∙ ap (λ s. s ++ flat_map f rest) (two ∙ ap (λ s. s ++ flat_map f ps) (one ∙ ap (λ s. s ++ f n) none)) ∙ append_assoc (f n) (flat_map f ps) (flat_map f rest) ∙ ap (λ s. f n ++ s) (sym (flat_map-append f ps rest)) ∙ sym (flat_map-cons f n (ps ++ rest))

-- each string has at least its zero byte
pub fewer_strings : (texts : List (List ℕ)) → length texts ≤ length (strings texts)
fewer_strings [] = omega arith
fewer_strings (s ∷ texts) =
    let split : length (strings (s ∷ texts)) ≡ length (s ++ 0 ∷ []) + length (strings texts) =
    ap length (flat_map-cons (λ (s : List ℕ). s ++ 0 ∷ []) s texts) ∙ length-append (s ++ 0 ∷ []) (strings texts) in
    let one : length (s ++ 0 ∷ []) ≡ length s + 1 = length-append s (0 ∷ []) in
    omega (arith, fewer_strings texts, split, one)

places_counted : (at : ℕ) (texts : List (List ℕ)) → length (string_addresses at texts) ≡ length texts
places_counted at [] = refl
places_counted at (s ∷ texts) = ap suc (places_counted (at + length s + 1) texts)

-- a word has four bytes
bytes_counted : (words : List ℕ) → length (flat_map (λ n. to_le_bytes w32 n) words) ≡ 4 * length words
bytes_counted [] = refl
bytes_counted (w ∷ words) =
    let split : length (flat_map (λ n. to_le_bytes w32 n) (w ∷ words)) ≡ 4 + length (flat_map (λ n. to_le_bytes w32 n) words) =
    ap length (flat_map-cons (λ n. to_le_bytes w32 n) w words) ∙ length-append (to_le_bytes w32 w) (flat_map (λ n. to_le_bytes w32 n) words) in
    omega (arith, bytes_counted words, split)

pub words_counted : (image : Executable) (texts : List (List ℕ)) → length (flat_map (λ n. to_le_bytes w32 n) (stack_words image texts)) ≡ 4 * (length texts + 17)
words_counted image texts =
    let places = string_addresses (strings_address texts) texts in
    let all = bytes_counted (stack_words image texts) in
    let split : length (places ++ 0 ∷ 0 ∷ auxiliary_vector image) ≡ length places + 16 = length-append places (0 ∷ 0 ∷ auxiliary_vector image) in
    omega (arith, all, split, places_counted (strings_address texts) texts)

-- the stack is mapped
pub stack_mapped : (m : Memory) (q : ℕ) → 0x7F800000 ≤ q → q < 0x80000000 → is_some ((with_pages m stack_page STACK_PAGES (Some stack_rights)).rights (q / 4096)) ≡ true
stack_mapped m q low high = ap (λ b. is_some (cond b (Some stack_rights) (m.rights (q / 4096)))) among
  where
    from : 0x7F800 ≤ q / 4096
    from = omega (arith, low)

    to : q / 4096 < 0x7F800 + STACK_PAGES
    to = omega (arith, high)

    among : is_among stack_page STACK_PAGES (q / 4096) ≡ true
    among = grind (arith, nat_tests, from, to)

-- the words stand in the stack, and the strings and sixteen bytes behind them
pub words_within : (image : Executable) (texts : List (List ℕ)) → length (strings texts) ≤ 65536 → (0x7F800000 ≤ stack_pointer texts) × (stack_pointer texts + length (flat_map (λ n. to_le_bytes w32 n) (stack_words image texts)) < 0x80000000)
words_within image texts limit =
    let few = fewer_strings texts in
    let count = words_counted image texts in
    (omega (arith, few, limit), omega (arith, few, limit, count))
