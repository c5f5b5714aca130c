-- Section headers and symbols, one after another.
use Rattle.std.proofs.Common.{◌≡◌, ℕ, zero, suc, ◌+◌, ◌<◌, true, false, eqb, List, [], ◌∷◌, ◌++◌, length, get_or, Option, Some, None, refl, ap, ◌∙◌, add-one, zero-add, arith}
use Rattle.std.specs.List.{cons_option, filter_map, find, range_with_len}
use Rattle.std.proofs.lemmas.List.Elements.{filter_map-append}
use Rattle.std.proofs.lemmas.List.FromFn.{get_or-map-range_with_len, length-map-range_with_len}
use Rattle.std.proofs.lemmas.List.Recursion.{found_at, found_nowhere}
use Rattle.elf_image.specs.declared.headers.SectionHeader.{SectionHeader}
use Rattle.elf_image.specs.Headers.{file_header, section_header, section_headers}

-- the header that stands for none
abbrev no_section : SectionHeader
no_section = record { sh_type = 0; sh_offset = 0; sh_size = 0; sh_link = 0; sh_entsize = 0 }

module _ (file : List ℕ) where
  listed : (i : ℕ) → i < (file_header file).e_shnum → get_or (section_headers file) i no_section ≡ section_header file i
  unfolding section_headers
  listed i inside = get_or-map-range_with_len (section_header file) 0 (file_header file).e_shnum i i no_section inside (omega arith)

  all_listed : length (section_headers file) ≡ (file_header file).e_shnum
  unfolding section_headers
  all_listed = length-map-range_with_len (section_header file) 0 (file_header file).e_shnum

  -- the first symbol table, and none
  pub found_table : (i : ℕ) → i < (file_header file).e_shnum → ((k : ℕ) → k < i → eqb (section_header file k).sh_type 2 ≡ false)
      → eqb (section_header file i).sh_type 2 ≡ true → find (λ s. eqb s.sh_type 2) (section_headers file) ≡ Some (section_header file i)
  found_table i inside before here = found_at (find (λ s. eqb s.sh_type 2)) (λ s. eqb s.sh_type 2) Some None refl (λ s rest. refl) (section_headers file) i no_section
      (omega (arith, all_listed, inside))
      (λ k low. ap (λ (s : SectionHeader). eqb s.sh_type 2) (listed k (omega (arith, low, inside))) ∙ before k low)
      (ap (λ (s : SectionHeader). eqb s.sh_type 2) (listed i inside) ∙ here)
      ∙ ap Some (listed i inside)

  pub found_no_table : ((k : ℕ) → k < (file_header file).e_shnum → eqb (section_header file k).sh_type 2 ≡ false)
      → find (λ s. eqb s.sh_type 2) (section_headers file) ≡ None
  found_no_table none = found_nowhere (find (λ s. eqb s.sh_type 2)) (λ s. eqb s.sh_type 2) Some None refl (λ s rest. refl) (section_headers file) no_section
      (λ k inside. let low : k < (file_header file).e_shnum = omega (arith, all_listed, inside) in ap (λ (s : SectionHeader). eqb s.sh_type 2) (listed k low) ∙ none k low)

-- one more number in a range
pub range_more : (a n : ℕ) → range_with_len a (suc n) ≡ range_with_len a n ++ (a + n) ∷ []
range_more a zero = ap (λ k. k ∷ []) (omega arith)
range_more a (suc n) = ap (λ ks. a ∷ ks) (range_more (a + 1) n ∙ ap (λ k. range_with_len (a + 1) n ++ k ∷ []) (omega arith))

-- what one more number gives
pub kept_more : {X : Type 0} (h : ℕ → Option X) (i : ℕ) → filter_map h (range_with_len 0 (i + 1)) ≡ filter_map h (range_with_len 0 i) ++ cons_option (h i) []
kept_more h i = ap (λ n. filter_map h (range_with_len 0 n)) (add-one i) ∙ (ap (filter_map h) (range_more 0 i)
    ∙ (filter_map-append h (range_with_len 0 i) ((0 + i) ∷ []) ∙ ap (λ k. filter_map h (range_with_len 0 i) ++ cons_option (h k) []) (zero-add i)))
