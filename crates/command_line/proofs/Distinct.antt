-- Names, each once.
use Rattle.std.proofs.Common.{◌≡◌, Bool, true, false, not, ◌||◌, ◌&&◌, ◌<◌, ◌+◌, refl, ap, sym, ◌∙◌, List, [], ◌∷◌, ◌++◌, append_assoc, cond, length, drop, get_or, drop-cons, suc, arith, ap₂, subst}
use Rattle.std.proofs.lemmas.List.{map-append}
use Rattle.std.specs.Prelude.{ℕ, filter, map}
use Rattle.std.specs.Borrow.{Bor}
use Rattle.std.specs.List.{list_any}
use Rattle.std.specs.Str.{bytes_eq}
use Rattle.std.proofs.lemmas.List.Folds.{list_any-append}
use Rattle.std.proofs.lemmas.Slice.Eq.{bytes_eq-Decides}
use Rattle.command_line.specs.Options.{distinct, is_plain_argument, names}

abbrev Texts : Type 0
Texts = List (List ℕ)

abbrev Refs : Type 0
Refs = List (Bor (List ℕ))

-- the texts behind references
abbrev pub texts : Refs → Texts
texts refs = map (λ word. word.now) refs

-- the name is among those found
abbrev pub is_found : Texts → List ℕ → Bool
is_found found name = list_any (λ other. bytes_eq other name) found

-- those of the names that are not among those found, and those that are not this one
abbrev fresh : Texts → Texts → Texts
fresh found xs = filter (λ name. not (is_found found name)) xs

abbrev others : List ℕ → Texts → Texts
others name xs = filter (λ other. not (bytes_eq name other)) xs

-- what is still to be found among these names
abbrev pub still : Texts → Texts → Texts
still found rest = fresh found (distinct rest)

still_other : (found : Texts) (name : List ℕ) (xs : Texts) → is_found found name ≡ true
    → fresh found (others name xs) ≡ fresh found xs
still_other found name [] h = refl
still_other found name (x ∷ xs) h = go (bytes_eq name x) refl (still_other found name xs h)
  where
    go : (b : Bool) → bytes_eq name x ≡ b
        → fresh found (others name xs) ≡ fresh found xs
        → fresh found (others name (x ∷ xs)) ≡ fresh found (x ∷ xs)
    go true e rec =
        let same : name ≡ x = (bytes_eq-Decides name x).0 e in
        let known : is_found found x ≡ true = rw (← same) h in
        rw (e, known) rec
    go false e rec = rw e (ap (λ (ys : Texts). cond (not (is_found found x)) (x ∷ ys) ys) rec)

-- a name that was found before adds nothing
pub still_known : (found : Texts) (name : List ℕ) (rest : Texts) → is_found found name ≡ true → still found (name ∷ rest) ≡ still found rest
still_known found name rest h = rw h (still_other found name (distinct rest) h)

still_more : (found : Texts) (name : List ℕ) (xs : Texts)
    → fresh found (others name xs) ≡ fresh (found ++ name ∷ []) xs
still_more found name [] = refl
still_more found name (x ∷ xs) = go (bytes_eq name x) (is_found found x) refl refl (list_any-append (λ other. bytes_eq other x) found (name ∷ [])) (still_more found name xs)
  where
    go : (b k : Bool) → bytes_eq name x ≡ b → is_found found x ≡ k → is_found (found ++ name ∷ []) x ≡ (is_found found x || (bytes_eq name x || false))
        → fresh found (others name xs) ≡ fresh (found ++ name ∷ []) xs
        → fresh found (others name (x ∷ xs)) ≡ fresh (found ++ name ∷ []) (x ∷ xs)
    go true true e f is rec = rw (is, e, f) rec
    go true false e f is rec = rw (is, e, f) rec
    go false true e f is rec = rw (is, e, f) rec
    go false false e f is rec = rw (is, e, f) (ap (λ (ys : Texts). x ∷ ys) rec)

-- a new name stands next
pub still_new : (found : Texts) (name : List ℕ) (rest : Texts) → is_found found name ≡ false
    → found ++ still found (name ∷ rest) ≡ (found ++ name ∷ []) ++ still (found ++ name ∷ []) rest
still_new found name rest h =
    ap (λ b. found ++ cond (not b) (name ∷ fresh found (others name (distinct rest))) (fresh found (others name (distinct rest)))) h
    ∙ (ap (λ (ys : Texts). found ++ name ∷ ys) (still_more found name (distinct rest)) ∙ sym (append_assoc found (name ∷ []) (still (found ++ name ∷ []) rest)))

-- the names found so far, and what is still to be found among the words that are left
abbrev pub all_found : Texts → Texts → Texts
all_found found words = found ++ still found (names words)

pub skips_argument : (found : Texts) (word : List ℕ) (rest : Texts) → is_plain_argument word ≡ true → all_found found (word ∷ rest) ≡ all_found found rest
skips_argument found word rest h = rw h refl

pub skips_known : (found : Texts) (word : List ℕ) (rest : Texts) → is_plain_argument word ≡ false → is_found found word ≡ true
    → all_found found (word ∷ rest) ≡ all_found found rest
skips_known found word rest h k = rw h (ap (λ (ys : Texts). found ++ ys) (still_known found word (names rest) k))

pub takes_new : (found : Texts) (word : List ℕ) (rest : Texts) → is_plain_argument word ≡ false → is_found found word ≡ false
    → all_found found (word ∷ rest) ≡ all_found (found ++ word ∷ []) rest
takes_new found word rest h k = rw h (still_new found word (names rest) k)

nothing_left : (xs : Texts) → filter (λ (name : List ℕ). not false) xs ≡ xs
nothing_left [] = refl
nothing_left (x ∷ xs) = ap (λ (ys : Texts). x ∷ ys) (nothing_left xs)

-- at first nothing is found
pub all_at_first : (words : Texts) → all_found [] words ≡ distinct (names words)
all_at_first words = nothing_left (distinct (names words))

-- the words from a place on
words_left : (items : Refs) (i : ℕ) (d : Bor (List ℕ)) → i < length items
    → texts (drop i items) ≡ (get_or items i d).now ∷ texts (drop (i + 1) items)
words_left items i d lt =
    let next : suc i ≡ i + 1 = omega arith in
    ap texts (drop-cons items i d lt) ∙ ap (λ n. (get_or items i d).now ∷ texts (drop n items)) next

-- the word is a new input
abbrev is_new : Texts → List ℕ → Bool
is_new found word = not (is_plain_argument word) && not (is_found found word)

both_cases : (argument known : Bool) → (not argument && not known) ≡ true → (argument ≡ false) × (known ≡ false)
both_cases true known h = cc
both_cases false true h = cc
both_cases false false h = (refl, refl)

skips_word : (found : Texts) (word : List ℕ) (rest : Texts) → is_new found word ≡ false → all_found found (word ∷ rest) ≡ all_found found rest
skips_word found word rest h = go (is_plain_argument word) (is_found found word) refl refl h
  where
    go : (argument known : Bool) → is_plain_argument word ≡ argument → is_found found word ≡ known → is_new found word ≡ false
        → all_found found (word ∷ rest) ≡ all_found found rest
    go true known e k n = skips_argument found word rest e
    go false true e k n = skips_known found word rest e k
    go false false e k n = let no : true ≡ false = rw (e, k) at n in cc

adds_word : (found : Texts) (word : List ℕ) (rest : Texts) → is_new found word ≡ true
    → all_found found (word ∷ rest) ≡ all_found (found ++ word ∷ []) rest
adds_word found word rest h =
    let cases = both_cases (is_plain_argument word) (is_found found word) h in
    takes_new found word rest cases.0 cases.1

-- ---- a step of the search

-- the test of a word against the references found, as the code makes it
abbrev test_of : Refs → List ℕ → Bool
test_of found word = not (is_plain_argument word) && not (list_any (λ name. bytes_eq name.now word) found)

found_now : (found : Refs) (word : List ℕ) → list_any (λ name. bytes_eq name.now word) found ≡ is_found (texts found) word
found_now [] word = refl
found_now (x ∷ xs) word = ap (λ b. bytes_eq x.now word || b) (found_now xs word)

-- The code tests the word at a place against what it found.
pub record Tests (items : Refs) (i : ℕ) (d : Bor (List ℕ)) (inputs words found : Refs) (r : Bool) : Type 0 where
  pub words_are : words ≡ items
  pub found_are : found ≡ inputs
  pub within : i < length words
  pub answer : r ≡ test_of found (get_or words i d).now

test_is : (items : Refs) (i : ℕ) (d : Bor (List ℕ)) (inputs words found : Refs) (r : Bool) → Tests items i d inputs words found r
    → is_new (texts inputs) (get_or items i d).now ≡ r
test_is items i d inputs words found r t =
    sym (t.answer ∙ (ap₂ (λ (xs ys : Refs). test_of ys (get_or xs i d).now) t.words_are t.found_are
    ∙ ap (λ b. not (is_plain_argument (get_or items i d).now) && not b) (found_now inputs (get_or items i d).now)))

-- what was found, and what is still to be found from this word on
next_word : (items : Refs) (i : ℕ) (d : Bor (List ℕ)) (inputs words found : Refs) (r : Bool) → Tests items i d inputs words found r
    → all_found (texts inputs) (texts (drop i items)) ≡ all_found (texts inputs) ((get_or items i d).now ∷ texts (drop (i + 1) items))
next_word items i d inputs words found r t =
    ap (all_found (texts inputs)) (words_left items i d (subst (λ (xs : Refs). i < length xs) t.words_are t.within))

-- a word that is no new input
pub goes_on : (items : Refs) (i : ℕ) (d : Bor (List ℕ)) (inputs words found : Refs) (r : Bool) → Tests items i d inputs words found r → r ≡ false
    → (all : Texts) → all_found (texts inputs) (texts (drop i items)) ≡ all → all_found (texts inputs) (texts (drop (i + 1) items)) ≡ all
goes_on items i d inputs words found r t old all before =
    sym (skips_word (texts inputs) (get_or items i d).now (texts (drop (i + 1) items)) (test_is items i d inputs words found r t ∙ old))
    ∙ (sym (next_word items i d inputs words found r t) ∙ before)

-- and a new one, which is added
pub goes_on_with : (items : Refs) (i : ℕ) (d : Bor (List ℕ)) (inputs words found : Refs) (r : Bool) → Tests items i d inputs words found r → r ≡ true
    → (all : Texts) → all_found (texts inputs) (texts (drop i items)) ≡ all
    → (more : Refs) → more ≡ inputs ++ get_or words i d ∷ [] → all_found (texts more) (texts (drop (i + 1) items)) ≡ all
goes_on_with items i d inputs words found r t new all before more longer =
    let word = (get_or items i d).now in
    let rest = texts (drop (i + 1) items) in
    let more_texts : texts more ≡ texts inputs ++ word ∷ [] =
    ap texts longer ∙ (map-append (λ (name : Bor (List ℕ)). name.now) inputs (get_or words i d ∷ [])
    ∙ ap (λ (xs : Refs). texts inputs ++ (get_or xs i d).now ∷ []) t.words_are) in
    ap (λ (found : Texts). all_found found rest) more_texts
    ∙ (sym (adds_word (texts inputs) word rest (test_is items i d inputs words found r t ∙ new))
    ∙ (sym (next_word items i d inputs words found r t) ∙ before))
