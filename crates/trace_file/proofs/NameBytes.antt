-- Names of a given length.
use Rattle.std.proofs.Common.{zero, suc, ◌≡◌, ℕ, ◌-◌, ◌≤◌, ◌<◌, ◌++◌, ◌∷◌, [], List, Bool, true, false, not, ◌&&◌, length, take, drop, replicate, refl, sym, ap, ap₂, ◌∙◌, arith, length-append}
use Rattle.std.specs.Prelude.{nat_le}
use Rattle.std.specs.List.{list_all}
use Rattle.std.proofs.Math.Seq.{take-append_seam}
use Rattle.std.proofs.lemmas.Bool.{true≢false}
use Rattle.std.proofs.lemmas.Bool.Decides.{nat_tests}
use Rattle.std.proofs.lemmas.List.{length-replicate, take-append-drop, take-append-le}
use Rattle.std.proofs.lemmas.List.Folds.{list_all-append}
use Rattle.guest_words.specs.Names.{is_dash, is_name, is_visible}
use Rattle.guest_words.specs.declared.limits.TheConstants.{NAME_BYTES}
use Rattle.trace_file.specs.Pieces.{IsBegun, IsNone}
use Rattle.trace_file.specs.Private.RecordParts.{IsNameOf}

pub visible_filler : (n : ℕ) → list_all is_visible (replicate n 97) ≡ true
visible_filler zero = refl
visible_filler (suc n) = visible_filler n

named : (xs : List ℕ) → is_dash xs ≡ false → 1 ≤ length xs → length xs ≤ NAME_BYTES → list_all is_visible xs ≡ true → is_name xs ≡ true
named xs dash least most visible = grind (arith, nat_tests)

long : (xs : List ℕ) → 2 ≤ length xs → is_dash xs ≡ false
long xs two = grind (arith, nat_tests)

-- bytes that are filled up to so many
filled : (bytes : List ℕ) (len : ℕ) → 1 ≤ len → length bytes < len → is_dash (bytes ++ replicate (len - length bytes) 97) ≡ false
filled [] zero least short = absurd (omega arith)
filled [] (suc zero) least short = refl
filled [] (suc (suc len)) least short = long ([] ++ replicate (suc (suc len) - length {A = ℕ} []) 97) (let n = length-replicate {A = ℕ} (suc (suc len) - length {A = ℕ} []) 97 in omega (arith, n))
filled (b ∷ bytes) len least short = long (b ∷ bytes ++ replicate (len - length (b ∷ bytes)) 97) (let n = length-replicate {A = ℕ} (len - length (b ∷ bytes)) 97 in omega (arith, n, length-append bytes (replicate (len - length (b ∷ bytes)) 97)))

pub begun_name : (bytes : List ℕ) (len : ℕ) → 1 ≤ len → len ≤ NAME_BYTES → length bytes < len → list_all is_visible bytes ≡ true → IsBegun (IsNameOf len) bytes
begun_name bytes len least most short visible =
    let filler = replicate (len - length bytes) 97 in
    let many : length filler ≡ len - length bytes = length-replicate (len - length bytes) 97 in
    let all : length (bytes ++ filler) ≡ len = omega (arith, many, length-append bytes filler) in
    record {
      more = filler;
      some = λ none. absurd (omega (arith, many, ap length none));
      text = (named (bytes ++ filler) (filled bytes len least short) (omega (arith, all)) (omega (arith, all)) (list_all-append is_visible bytes filler ∙ ap₂ (λ a b. a && b) visible (visible_filler (len - length bytes))), all);
      unfinished = λ x rest name same. absurd (omega (arith, ap length same, length-append x rest, name.1));
    }

pub is_visible_name : (x : List ℕ) → is_name x ≡ true → list_all is_visible x ≡ true
is_visible_name x name = by (not (is_dash x)) (nat_le 1 (length x)) (nat_le (length x) NAME_BYTES) (list_all is_visible x) name
  where
    by : (a b c d : Bool) → (a && b && c && d) ≡ true → d ≡ true
    by a b c true all = refl
    by true true true false all = absurd (true≢false (sym all))
    by true true false false all = absurd (true≢false (sym all))
    by true false c false all = absurd (true≢false (sym all))
    by false b c false all = absurd (true≢false (sym all))

-- an early byte that can't stand in a name
pub none_early : (bytes : List ℕ) (len : ℕ) → length bytes < len → list_all is_visible bytes ≡ false → IsNone (IsNameOf len) bytes
none_early bytes len short hidden x more rest name same =
    let begins : bytes ≡ take (length bytes) x = sym (take-append_seam bytes more) ∙ ap (take (length bytes)) same ∙ take-append-le (length bytes) x rest (omega (arith, name.1)) in
    let split : x ≡ bytes ++ drop (length bytes) x = sym (take-append-drop (length bytes) x) ∙ ap (λ y. y ++ drop (length bytes) x) (sym begins) in
    true≢false (sym (is_visible_name x name.0) ∙ ap (list_all is_visible) split ∙ list_all-append is_visible bytes (drop (length bytes) x) ∙ ap (λ b. b && list_all is_visible (drop (length bytes) x)) hidden)

-- `len` bytes that are no name
pub none_whole : (bytes : List ℕ) (len : ℕ) → len ≤ length bytes → is_name (take len bytes) ≡ false → IsNone (IsNameOf len) bytes
none_whole bytes len long bad x more rest name same =
    let is : take len bytes ≡ x = sym (take-append-le len bytes more long) ∙ ap (take len) same ∙ ap (λ n. take n (x ++ rest)) (sym name.1) ∙ take-append_seam x rest in
    true≢false (sym name.0 ∙ ap is_name (sym is) ∙ bad)

-- a name of each length
pub named_filler : (n : ℕ) → 1 ≤ n → n ≤ NAME_BYTES → is_name (replicate n 97) ≡ true
named_filler n least most =
    let many = length-replicate {A = ℕ} n 97 in
    named (replicate n 97) (no_dash n least) (omega (arith, many)) (omega (arith, many)) (visible_filler n)
  where
    no_dash : (n : ℕ) → 1 ≤ n → is_dash (replicate n 97) ≡ false
    no_dash zero least = absurd (omega arith)
    no_dash (suc zero) least = refl
    no_dash (suc (suc n)) least = long (replicate (suc (suc n)) 97) (let many = length-replicate {A = ℕ} (suc (suc n)) 97 in omega (arith, many))
