-- The symbols of a table's entries, in another order.
use Rattle.std.proofs.Common.{◌≡◌, ℕ, ◌+◌, ◌*◌, ◌/◌, ◌<◌, ◌≤◌, Bool, true, false, eqb, if◌then◌else◌, List, [], ◌∷◌, ◌++◌, length, get_or, map, take, filter, Option, Some, None, refl, sym, ap, ◌∙◌, inl, inr, arith}
use Rattle.std.specs.List.{All, cons_option, filter_map, range_with_len}
use Rattle.std.specs.List.Sorted.{IsNonDecreasingBy, IsPermutation}
use Rattle.std.specs.Option.{IfSome, option_map, option_map_or}
use Rattle.std.proofs.lemmas.Bool.{cases_eq, eq-eqb, ne_eqb}
use Rattle.std.proofs.lemmas.List.{get_or-take, get_or_default, length-take-le, take_more}
use Rattle.std.proofs.lemmas.List.Elements.{All-cons, All-head, All-nil, All-tail, All-take, filter_map-append}
use Rattle.std.proofs.lemmas.List.FromFn.{get_or-map-range_with_len, length-map-range_with_len}
use Rattle.std.proofs.lemmas.List.Sorted.{All-permutation}
use Rattle.elf_image.specs.declared.headers.SectionHeader.{SectionHeader}
use Rattle.elf_image.specs.declared.names.Entry.{Entry}
use Rattle.elf_image.specs.Symbols.{Symbol}
use Rattle.elf_image.specs.Private.FirstSymbols.{AreFirst, IsEntry, entry_at, symbols_of_entries}
use Rattle.elf_image.specs.Headers.{section_header, word_at}
use Rattle.elf_image.specs.Symbols.{is_readable, name_in, section_bytes, symbol_at, symbol_table, symbols, symbols_in}
use Rattle.elf_image.proofs.FirstSymbols.{symbol_of-same}
use Rattle.elf_image.proofs.Values.{one_given}

-- the entry that stands for none
abbrev pub no_entry : Entry
no_entry = record { value = 0; index = 0 }

-- what holds of all that a function gives of a list holds of each value that it gives
one_holds : {Y : Type 0} (P : Y → Type 0) (o : Option Y) (ys : List Y) → All P (cons_option o ys) → IfSome o P
one_holds P None ys all = tt
one_holds P (Some y) ys all = All-head P y ys all

rest_holds : {Y : Type 0} (P : Y → Type 0) (o : Option Y) (ys : List Y) → All P (cons_option o ys) → All P ys
rest_holds P None ys all = all
rest_holds P (Some y) ys all = All-tail P y ys all

each_given : {X Y : Type 0} (P : Y → Type 0) (h : X → Option Y) (xs : List X) → All P (filter_map h xs) → All (λ x. IfSome (h x) P) xs
each_given P h [] all = All-nil (λ x. IfSome (h x) P)
each_given P h (x ∷ xs) all = All-cons (λ y. IfSome (h y) P) x xs (one_holds P (h x) (filter_map h xs) all) (each_given P h xs (rest_holds P (h x) (filter_map h xs) all))

all_kept : {X Y : Type 0} (P : Y → Type 0) (h : X → Option Y) (xs : List X) → All (λ x. IfSome (h x) P) xs → All P (filter_map h xs)
all_kept P h [] all = All-nil P
all_kept P h (x ∷ xs) all = one_given P (h x) (filter_map h xs) (All-head (λ y. IfSome (h y) P) x xs all) (all_kept P h xs (All-tail (λ y. IfSome (h y) P) x xs all))

-- what a function gives of the values of another
given_of_map : {X Y Z : Type 0} (h : Y → Option Z) (f : X → Y) (xs : List X) → filter_map h (map f xs) ≡ filter_map (λ x. h (f x)) xs
given_of_map h f [] = refl
given_of_map h f (x ∷ xs) = ap (cons_option (h (f x))) (given_of_map h f xs)

-- a symbol at another value is passed over, and one at the value stays
kept_here : (o : Option Symbol) (at : ℕ) (ss : List Symbol) → IfSome o (λ s. s.value ≡ at) → filter (λ s. eqb s.value at) (cons_option o ss) ≡ cons_option o (filter (λ s. eqb s.value at) ss)
kept_here None at ss same = refl
kept_here (Some s) at ss same = rw (eq-eqb s.value at same) refl

kept_elsewhere : (o : Option Symbol) (v at : ℕ) (ss : List Symbol) → eqb v at ≡ false → IfSome o (λ s. s.value ≡ v) → filter (λ s. eqb s.value at) (cons_option o ss) ≡ filter (λ s. eqb s.value at) ss
kept_elsewhere None v at ss other same = refl
kept_elsewhere (Some s) v at ss other same = rw (same, other) refl

module _ (file strings : List ℕ) (table : SectionHeader) where
  abbrev of_entry : Entry → Option Symbol
  of_entry e = symbol_at file strings (table.sh_offset + 16 * e.index)

  -- the symbol of an entry has its value
  has_value : (e : Entry) → IsEntry file table e → IfSome (of_entry e) (λ s. s.value ≡ e.value)
  unfolding symbol_at
  has_value e is = by _ _ _ (name_in strings (word_at file (table.sh_offset + 16 * e.index))) (sym is.value)
    where
      by : (test : Bool) (value rank : ℕ) (name : Option (List ℕ)) → value ≡ e.value
          → IfSome (if test then option_map (λ n. record { value = value; rank = rank; name = n }) name else None) (λ (s : Symbol). s.value ≡ e.value)
      by false value rank name same = tt
      by true value rank None same = tt
      by true value rank (Some n) same = same

  -- the symbols at a value are those of the entries at it
  kept_at : (at : ℕ) (es : List Entry) → All (IsEntry file table) es
      → filter (λ s. eqb s.value at) (symbols_of_entries file strings table es) ≡ symbols_of_entries file strings table (filter (λ e. eqb e.value at) es)
  kept_at at [] are = refl
  kept_at at (e ∷ es) are =
      let value = has_value e (All-head (IsEntry file table) e es are) in
      let rest = kept_at at es (All-tail (IsEntry file table) e es are) in
      elim (cases_eq e.value at) as (λ _. filter (λ s. eqb s.value at) (symbols_of_entries file strings table (e ∷ es)) ≡ symbols_of_entries file strings table (filter (λ e. eqb e.value at) (e ∷ es))) [
        | inl here ↦ rw (eq-eqb e.value at here) (kept_here (of_entry e) at (symbols_of_entries file strings table es) (rw here at value) ∙ ap (cons_option (of_entry e)) rest)
        | inr elsewhere ↦ rw (ne_eqb e.value at elsewhere) (kept_elsewhere (of_entry e) e.value at (symbols_of_entries file strings table es) (ne_eqb e.value at elsewhere) value ∙ rest)
      ]

  -- where no entry is above a value, no symbol is
  pub none_above : (top : ℕ) (es : List Entry) → All (IsEntry file table) es → All (λ e. e.value ≤ top) es → All (λ s. s.value ≤ top) (symbols_of_entries file strings table es)
  none_above top [] are low = All-nil (λ (s : Symbol). s.value ≤ top)
  none_above top (e ∷ es) are low = by (of_entry e) (has_value e (All-head (IsEntry file table) e es are)) (All-head (λ (x : Entry). x.value ≤ top) e es low)
      (none_above top es (All-tail (IsEntry file table) e es are) (All-tail (λ (x : Entry). x.value ≤ top) e es low))
    where
      by : (o : Option Symbol) → IfSome o (λ s. s.value ≡ e.value) → e.value ≤ top → All (λ s. s.value ≤ top) (symbols_of_entries file strings table es)
          → All (λ s. s.value ≤ top) (cons_option o (symbols_of_entries file strings table es))
      by None same least rest = rest
      by (Some s) same least rest = All-cons (λ (t : Symbol). t.value ≤ top) s (symbols_of_entries file strings table es) (omega (arith, same, least)) rest

  -- what is known of all symbols at once, where the entries are in another order
  pub first_reordered : (es ordered : List Entry) (first : List Symbol) → All (IsEntry file table) es → IsPermutation es ordered
      → ((at : ℕ) → filter (λ e. eqb e.value at) ordered ≡ filter (λ e. eqb e.value at) es)
      → AreFirst (symbols_of_entries file strings table ordered) first → AreFirst (symbols_of_entries file strings table es) first
  first_reordered es ordered first are moved same found =
      let are_too : All (IsEntry file table) ordered = All-permutation (IsEntry file table) es ordered moved are in
      record {
        rising = found.rising;
        found = λ at. found.found at ∙ symbol_of-same (symbols_of_entries file strings table ordered) (symbols_of_entries file strings table es) at
            (kept_at at ordered are_too ∙ (ap (symbols_of_entries file strings table) (same at) ∙ sym (kept_at at es are)));
        bounded = λ top all. found.bounded top
            (all_kept (λ (s : Symbol). s.value ≤ top) of_entry ordered
            (All-permutation (λ (e : Entry). IfSome (of_entry e) (λ (s : Symbol). s.value ≤ top)) es ordered moved (each_given (λ (s : Symbol). s.value ≤ top) of_entry es all)));
      }

  -- one more entry, of entries by rising value
  module _ (es : List Entry) (i : ℕ) (inside : i < length es) where
    pub one_more : symbols_of_entries file strings table (take (i + 1) es) ≡ symbols_of_entries file strings table (take i es) ++ cons_option (of_entry (get_or es i no_entry)) []
    one_more = ap (symbols_of_entries file strings table) (take_more es i no_entry inside) ∙ filter_map-append of_entry (take i es) (get_or es i no_entry ∷ [])

    pub none_later : All (IsEntry file table) es → IsNonDecreasingBy (λ e. e.value) es
        → IfSome (of_entry (get_or es i no_entry)) (λ s. All (λ t. t.value ≤ s.value) (symbols_of_entries file strings table (take i es)))
    none_later are rises = by (of_entry (get_or es i no_entry)) (has_value (get_or es i no_entry) (are i no_entry inside))
      where
        low : All (λ e. e.value ≤ (get_or es i no_entry).value) (take i es)
        low k d short =
            let before : k < i = omega (arith, short, length-take-le i es (omega (arith, inside))) in
            let up : (get_or es k d).value ≤ (get_or es i d).value = rises k i d (omega (arith, before)) inside in
            rw (get_or-take i es k d before, get_or_default es i no_entry d inside) up

        by : (o : Option Symbol) → IfSome o (λ s. s.value ≡ (get_or es i no_entry).value) → IfSome o (λ s. All (λ t. t.value ≤ s.value) (symbols_of_entries file strings table (take i es)))
        by None same = tt
        by (Some s) same = rw same (none_above (get_or es i no_entry).value (take i es) (All-take (IsEntry file table) i es are) low)

-- the entries of a table
module _ (file : List ℕ) (table : SectionHeader) where
  pub all_entries : All (IsEntry file table) (map (entry_at file table) (range_with_len 0 (table.sh_size / 16)))
  all_entries k d inside =
      let low : k < table.sh_size / 16 = omega (arith, inside, length-map-range_with_len (entry_at file table) 0 (table.sh_size / 16)) in
      rw (get_or-map-range_with_len (entry_at file table) 0 (table.sh_size / 16) k k d low (omega arith)) (record { value = refl; inside = low })

  pub all_symbols : symbols_of_entries file (section_bytes file (section_header file table.sh_link)) table (map (entry_at file table) (range_with_len 0 (table.sh_size / 16))) ≡ symbols_in file table
  unfolding symbols_in
  all_symbols = given_of_map (of_entry file (section_bytes file (section_header file table.sh_link)) table) (entry_at file table) (range_with_len 0 (table.sh_size / 16))

-- the symbols of a file, by its first symbol table
module _ (file : List ℕ) where
  abbrev by_table : Option SectionHeader → List Symbol
  by_table o = option_map_or (λ table. if is_readable file table then symbols_in file table else []) o []

  pub no_table : symbol_table file ≡ None → symbols file ≡ []
  unfolding symbols
  no_table none = ap by_table none

  pub not_readable : (table : SectionHeader) → symbol_table file ≡ Some table → is_readable file table ≡ false → symbols file ≡ []
  unfolding symbols
  not_readable table is bad = ap by_table is ∙ ap (λ (b : Bool). if b then symbols_in file table else []) bad

  pub read_table : (table : SectionHeader) → symbol_table file ≡ Some table → is_readable file table ≡ true → symbols file ≡ symbols_in file table
  unfolding symbols
  read_table table is good = ap by_table is ∙ ap (λ (b : Bool). if b then symbols_in file table else []) good
