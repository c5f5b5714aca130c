-- The first symbols, by the places of their names.
use Rattle.std.proofs.Common.{◌≡◌, ◌≢◌, ℕ, ◌+◌, ◌-◌, ◌/◌, ◌%◌, ◌<◌, ◌≤◌, true, false, eqb, List, [], ◌∷◌, ◌++◌, length, get_or, map, set, Option, Some, None, refl, sym, ap, subst, ◌∙◌, inl, inr, arith}
use Rattle.std.specs.Prelude.{slice_index}
use Rattle.std.specs.List.{All, AllPairs, find, slice_get}
use Rattle.std.specs.Option.{IfSome, option_map}
use Rattle.std.proofs.lemmas.Bool.{cases_eq, eq-eqb, ne_eqb}
use Rattle.std.proofs.lemmas.List.{get_or-map, length-map, map-append, map-set}
use Rattle.std.proofs.lemmas.Option.{slice_get-get_or}
use Rattle.elf_image.specs.declared.symbols.SymbolPlace.{SymbolPlace}
use Rattle.elf_image.specs.Private.FirstSymbols.{AreFirst}
use Rattle.elf_image.specs.Image.{name_beside}
use Rattle.elf_image.specs.Private.Places.{placed}
use Rattle.elf_image.specs.Headers.{half_at, word_at}
use Rattle.elf_image.specs.Symbols.{Symbol, goes_before, name_in, rank_of, symbol_at}
use Rattle.elf_image.proofs.NameLists.{name_of-symbols, named}
use Rattle.elf_image.proofs.FirstSymbols.{first_kept, first_pushed, first_replaced, no_symbol}

-- the place that stands for none
abbrev pub no_place : SymbolPlace
no_place = record { value = 0; rank = 0; start = 0; len = 0 }

module _ (strings : List ℕ) (items : List SymbolPlace) where
  abbrev symbols : List Symbol
  symbols = map (placed strings) items

  size : length symbols ≡ length items
  size = length-map items (placed strings)

  at_last : 0 < length items → get_or symbols (length symbols - 1) no_symbol ≡ placed strings (get_or items (length items - 1) no_place)
  at_last some = ap (λ n. get_or symbols (n - 1) no_symbol) size ∙ get_or-map (placed strings) items (length items - 1) no_place no_symbol (omega (arith, some))

  module _ (seen : List Symbol) (s : SymbolPlace) (before : AreFirst seen symbols) (below : All (λ t. t.value ≤ s.value) seen) where
    pub placed_pushed : (0 < length items → (get_or items (length items - 1) no_place).value ≢ s.value) → AreFirst (seen ++ placed strings s ∷ []) (map (placed strings) (items ++ s ∷ []))
    placed_pushed fresh =
        subst (λ first. AreFirst (seen ++ placed strings s ∷ []) first) (sym (map-append (placed strings) items (s ∷ [])))
        (first_pushed seen symbols (placed strings s) before below
        (λ some same. let there : 0 < length items = omega (arith, some, size) in fresh there (sym (ap (λ (t : Symbol). t.value) (at_last there)) ∙ same)))

    module _ (some : 0 < length items) (tied : (get_or items (length items - 1) no_place).value ≡ s.value) where
      there : 0 < length symbols
      there = omega (arith, some, size)

      tied_too : (get_or symbols (length symbols - 1) no_symbol).value ≡ s.value
      tied_too = ap (λ (t : Symbol). t.value) (at_last some) ∙ tied

      pub placed_kept : goes_before (placed strings s) (placed strings (get_or items (length items - 1) no_place)) ≡ false → AreFirst (seen ++ placed strings s ∷ []) symbols
      placed_kept later = first_kept seen symbols (placed strings s) before below there tied_too (ap (goes_before (placed strings s)) (at_last some) ∙ later)

      pub placed_replaced : goes_before (placed strings s) (placed strings (get_or items (length items - 1) no_place)) ≡ true →
          AreFirst (seen ++ placed strings s ∷ []) (map (placed strings) (set items (length items - 1) s))
      placed_replaced sooner =
          subst (λ first. AreFirst (seen ++ placed strings s ∷ []) first)
          (ap (λ n. set symbols (n - 1) (placed strings s)) size ∙ sym (map-set (placed strings) items (length items - 1) s))
          (first_replaced seen symbols (placed strings s) before below there tied_too (ap (goes_before (placed strings s)) (at_last some) ∙ sooner))

  -- the values of places rise as those of their symbols
  pub values_rise : AllPairs (λ s t. s.value < t.value) symbols → AllPairs (λ s t. s.value < t.value) items
  values_rise up i j d less inside =
      let rise : (get_or symbols i (placed strings d)).value < (get_or symbols j (placed strings d)).value = up i j (placed strings d) less (omega (arith, inside, size)) in
      let first = ap (λ (t : Symbol). t.value) (get_or-map (placed strings) items i d (placed strings d) (omega (arith, less, inside))) in
      let second = ap (λ (t : Symbol). t.value) (get_or-map (placed strings) items j d (placed strings d) inside) in
      omega (arith, rise, first, second)

-- the symbol of a value is that of the place of the value
pub find_placed : (strings : List ℕ) (items : List SymbolPlace) (value : ℕ) → find (λ s. eqb s.value value) (map (placed strings) items) ≡ option_map (placed strings) (find (λ p. eqb p.value value) items)
find_placed strings [] value = refl
find_placed strings (p ∷ items) value = elim (cases_eq p.value value) as (λ _. find (λ s. eqb s.value value) (map (placed strings) (p ∷ items)) ≡ option_map (placed strings) (find (λ q. eqb q.value value) (p ∷ items))) [
  | inl here ↦ rw (eq-eqb p.value value here) refl
  | inr elsewhere ↦ rw (ne_eqb p.value value elsewhere) (find_placed strings items value)
]

-- what is known of the value of a symbol is known of its place
pub below_placed : (strings : List ℕ) (o : Option SymbolPlace) (seen : List Symbol) → IfSome (option_map (placed strings) o) (λ s. All (λ t. t.value ≤ s.value) seen) → IfSome o (λ p. All (λ t. t.value ≤ p.value) seen)
below_placed strings None seen h = tt
below_placed strings (Some p) seen h = h

-- ---- the name beside a value
module _ (strings : List ℕ) (items : List SymbolPlace) (value : ℕ) where
  abbrev names : List (ℕ × List ℕ)
  names = map named (map (placed strings) items)

  name_by : (o : Option SymbolPlace) → find (λ p. eqb p.value value) items ≡ o → name_beside names value ≡ option_map (λ (s : Symbol). s.name) (option_map (placed strings) o)
  name_by o is =
      name_of-symbols (map (placed strings) items) value
      ∙ ap (option_map (λ (s : Symbol). s.name)) (find_placed strings items value ∙ ap (option_map (placed strings)) is)

  -- no place has the value
  pub unnamed : find (λ p. eqb p.value value) items ≡ None → None ≡ name_beside names value
  unnamed is = sym (name_by None is)

  -- the place at an index has it
  pub named_by : (index : ℕ) (p : SymbolPlace) → index < length items → find (λ p. eqb p.value value) items ≡ slice_get items index → p ≡ get_or items index no_place → Some (placed strings p).name ≡ name_beside names value
  named_by index p inside is here =
      sym (name_by (Some p) (is ∙ slice_get-get_or items index no_place inside ∙ ap Some (sym here)))

-- ---- a symbol that counts, by its fields
pub symbol_is : (file strings : List ℕ) (at value rank start half : ℕ) (name : List ℕ) → slice_index file (at + 12) % 16 ≡ 2 → half ≡ half_at file (at + 14) → half ≢ 0 → value ≡ word_at file (at + 4) →
    rank ≡ rank_of (slice_index file (at + 12) / 16) → start ≡ word_at file at → name_in strings start ≡ Some name → Some (record { value = value; rank = rank; name = name }) ≡ symbol_at file strings at
unfolding symbol_at
symbol_is file strings at value rank start half name func half_is some value_is rank_is start_is is =
    rw (eq-eqb (slice_index file (at + 12) % 16) 2 func, ← half_is, ne_eqb half 0 some, ← start_is, is, ← value_is, ← rank_is) refl
