-- The first test that fails, whatever the tests are.
use Rattle.std.proofs.Common.{◌≡◌, ◌≤◌, ℕ, Bool, true, false, cond, List, [], ◌∷◌, ◌++◌, length, Option, Some, None, Ok, Err, refl, ap, ◌∙◌, le-ltb}
use Rattle.std.specs.List.{AllByRecursion}
use Rattle.std.specs.Option.{option_or}
use Rattle.elf_image.specs.declared.error.ElfError.{ElfError}
use Rattle.elf_image.specs.declared.error.ElfError.TheVariants as error
use Rattle.elf_image.specs.Tests.{Tests, fails_short, first_of, first_refusal, format_tests, header_tests, kind_tests, layout_tests, segment_tests, table_tests}
use Rattle.elf_image.specs.Private.Checks.{unless_refused}

-- the first of two lists is that of the front, and else that of the rest
pub first_of-append : (xs ys : Tests) → first_of (xs ++ ys) ≡ option_or (first_of xs) (first_of ys)
first_of-append [] ys = refl
first_of-append ((true, e) ∷ xs) ys = refl
first_of-append ((false, e) ∷ xs) ys = first_of-append xs ys

-- none fails where each passes, and the other way round
pub none_fails : (tests : Tests) → AllByRecursion (λ test. test.0 ≡ false) tests → first_of tests ≡ None
none_fails [] all = refl
none_fails ((true, e) ∷ rest) all = let apart : true ≡ false = all.0 in absurd (cc)
none_fails ((false, e) ∷ rest) all = none_fails rest all.1

pub each_passes : (tests : Tests) → first_of tests ≡ None → AllByRecursion (λ test. test.0 ≡ false) tests
each_passes [] none = tt
each_passes ((true, e) ∷ rest) none = cc
each_passes ((false, e) ∷ rest) none = (refl, each_passes rest none)

-- three parts, of which the first that fails decides
module _ (a b c : Option ElfError) where
  abbrev three : Option ElfError
  three = option_or a (option_or b c)

  pub in_first : (e : ElfError) → a ≡ Some e → three ≡ Some e
  in_first e h = ap (λ o. option_or o (option_or b c)) h

  pub in_second : (e : ElfError) → a ≡ None → b ≡ Some e → three ≡ Some e
  in_second e h k = ap (λ o. option_or o (option_or b c)) h ∙ ap (λ o. option_or o c) k

  pub in_third : (first : Option ElfError) → a ≡ None → b ≡ None → c ≡ first → three ≡ first
  in_third first h k l = ap (λ o. option_or o (option_or b c)) h ∙ (ap (λ o. option_or o c) k ∙ l)

-- what a part that answers by its tests says of them
pub refused_by : (o : Option ElfError) (e : ElfError) → unless_refused o ≡ Err e → o ≡ Some e
refused_by None e h = cc
refused_by (Some other) e h = cc

pub passed_by : (o : Option ElfError) → unless_refused o ≡ Ok tt → o ≡ None
passed_by None h = refl
passed_by (Some other) h = cc

-- the tests of a header that is there, part by part
pub of_header : (file : List ℕ) → 52 ≤ length file
    → first_of (header_tests file) ≡ three (first_of (format_tests file)) (first_of (kind_tests file)) (first_of (table_tests file))
of_header file long =
    let kind_and_table = kind_tests file ++ table_tests file in
    let is_long : fails_short file ≡ false = le-ltb (length file) 52 long in
    ap (λ (b : Bool). cond b (Some error.Short) (first_of (format_tests file ++ kind_and_table))) is_long
    ∙ (first_of-append (format_tests file) kind_and_table
    ∙ ap (option_or (first_of (format_tests file))) (first_of-append (kind_tests file) (table_tests file)))

-- the tests of a file, part by part
pub of_file : (file : List ℕ) → first_refusal file ≡ three (first_of (header_tests file)) (first_of (segment_tests file)) (first_of (layout_tests file))
unfolding first_refusal
of_file file = first_of-append (header_tests file) (segment_tests file ++ layout_tests file)
    ∙ ap (option_or (first_of (header_tests file))) (first_of-append (segment_tests file) (layout_tests file))
