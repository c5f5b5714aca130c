-- One number: whether bytes are the beginning of one in a range.
use Rattle.std.proofs.Common.{inl, inr, zero, ◌≡◌, ℕ, suc, ◌+◌, ◌/◌, ◌%◌, ◌<◌, ◌≤◌, ◌^◌, ◌++◌, ◌∷◌, [], min, List, length, get_or, drop, refl, sym, ap, ap₂, ◌∙◌, arith, length-append, append-nil}
use Rattle.std.proofs.lemmas.Bool.{cases_lt}
use Rattle.std.proofs.lemmas.List.{length-drop}
use Rattle.std.proofs.Math.Nat.{pow-succ'}
use Rattle.byteorder.specs.Endian.{little_number}
use Rattle.trace_file.specs.declared.records.Range.{Range}
use Rattle.trace_file.specs.Records.{IsIn, number_bytes}
use Rattle.trace_file.specs.Private.Made.{IsLeastNumber}
use Rattle.trace_file.specs.Pieces.{IsBegun, IsNone}
use Rattle.trace_file.specs.Private.RecordParts.{AreNumbers}

abbrev AreBytes : List ℕ → Type 0
AreBytes bytes = (i : ℕ) → get_or bytes i 0 < 256

-- the number is the one of the range
one_of : (r : Range) (x more bytes rest : List ℕ) → AreNumbers (r ∷ []) x → bytes ++ more ≡ x ++ rest → (n : ℕ) × IsIn r n × (bytes ++ more ≡ number_bytes n ++ rest)
one_of r x more bytes rest ([], within, text) same = absurd within
one_of r x more bytes rest (n ∷ [], within, text) same = (n, within.0, same ∙ ap (λ y. y ++ rest) (text ∙ append-nil (number_bytes n)))
one_of r x more bytes rest (n ∷ m ∷ ns, within, text) same = absurd within.1

-- its bytes
byte : (i : ℕ) (xs ys : List ℕ) → xs ≡ ys → get_or xs i 0 ≡ get_or ys i 0
byte i xs ys same = ap (λ zs. get_or zs i 0) same

-- what the bytes of a number are
abbrev pub Four : ℕ → List ℕ → List ℕ
Four n rest = n % 256 ∷ n / 256 % 256 ∷ n / 65536 % 256 ∷ n / 16777216 % 256 ∷ rest

pub as_four : (n : ℕ) (rest : List ℕ) → number_bytes n ++ rest ≡ Four n rest
unfolding number_bytes
as_four n rest = refl

-- where the bytes so far are in the range or above it
against_known : (bytes more rest : List ℕ) (r : Range) (n w : ℕ) → IsIn r n → bytes ++ more ≡ Four n rest → w ≡ little_number 4 bytes → r.most < w → ⊥
against_known [] more rest r n w within same known above = omega arith
against_known (a ∷ []) more rest r n w within same known above =
    let first : a ≡ n % 256 = byte 0 _ _ same in
    omega arith
against_known (a ∷ b ∷ []) more rest r n w within same known above =
    let first : a ≡ n % 256 = byte 0 _ _ same in
    let second : b ≡ n / 256 % 256 = byte 1 _ _ same in
    omega arith
against_known (a ∷ b ∷ c ∷ []) more rest r n w within same known above =
    let first : a ≡ n % 256 = byte 0 _ _ same in
    let second : b ≡ n / 256 % 256 = byte 1 _ _ same in
    let third : c ≡ n / 65536 % 256 = byte 2 _ _ same in
    omega arith
against_known (a ∷ b ∷ c ∷ d ∷ bytes) more rest r n w within same known above =
    let first : a ≡ n % 256 = byte 0 _ _ same in
    let second : b ≡ n / 256 % 256 = byte 1 _ _ same in
    let third : c ≡ n / 65536 % 256 = byte 2 _ _ same in
    let fourth : d ≡ n / 16777216 % 256 = byte 3 _ _ same in
    omega arith

-- and where they are below it
against_beyond : (bytes more rest : List ℕ) (r : Range) (n w : ℕ) → IsIn r n → n < 2 ^ 32 → bytes ++ more ≡ Four n rest → r.least ≤ 1 → little_number 4 bytes < r.least → w ≡ little_number 4 bytes + 256 ^ min (length bytes) 4 → r.most < w → ⊥
against_beyond [] more rest r n w within fits same least below beyond above = omega arith
against_beyond (a ∷ []) more rest r n w within fits same least below beyond above =
    let first : a ≡ n % 256 = byte 0 _ _ same in
    omega arith
against_beyond (a ∷ b ∷ []) more rest r n w within fits same least below beyond above =
    let first : a ≡ n % 256 = byte 0 _ _ same in
    let second : b ≡ n / 256 % 256 = byte 1 _ _ same in
    omega arith
against_beyond (a ∷ b ∷ c ∷ []) more rest r n w within fits same least below beyond above =
    let first : a ≡ n % 256 = byte 0 _ _ same in
    let second : b ≡ n / 256 % 256 = byte 1 _ _ same in
    let third : c ≡ n / 65536 % 256 = byte 2 _ _ same in
    omega arith
against_beyond (a ∷ b ∷ c ∷ d ∷ bytes) more rest r n w within fits same least below beyond above =
    let first : a ≡ n % 256 = byte 0 _ _ same in
    let second : b ≡ n / 256 % 256 = byte 1 _ _ same in
    let third : c ≡ n / 65536 % 256 = byte 2 _ _ same in
    let fourth : d ≡ n / 16777216 % 256 = byte 3 _ _ same in
    omega arith

pub none : (bytes : List ℕ) (r : Range) (w : ℕ) → r.least ≤ 1 → r.most < 2 ^ 32 → IsLeastNumber bytes r w → r.most < w → IsNone (AreNumbers (r ∷ [])) bytes
none bytes r w least most is above x more rest text same =
    let one = one_of r x more bytes rest text same in
    let fits : one.0 < 2 ^ 32 = omega (arith, one.1) in
    elim (cases_lt (little_number 4 bytes) r.least) [
      | inl below ↦ against_beyond bytes more rest r one.0 w one.1 fits (one.2 ∙ as_four one.0 rest) least below (is.beyond below) above
      | inr within ↦ against_known bytes more rest r one.0 w one.1 (one.2 ∙ as_four one.0 rest) (is.known within) above
    ]

-- a number that begins so
begins : (bytes : List ℕ) (w : ℕ) → AreBytes bytes → length bytes < 4 → w < 2 ^ 32 → w % 256 ^ length bytes ≡ little_number 4 bytes → bytes ++ drop (length bytes) (Four w []) ≡ Four w []
begins [] w small short fits is = refl
begins (a ∷ []) w small short fits is = let first : a ≡ w % 256 = omega (arith, small 0) in ap (λ x. x ∷ w / 256 % 256 ∷ w / 65536 % 256 ∷ w / 16777216 % 256 ∷ []) first
begins (a ∷ b ∷ []) w small short fits is =
    let first : a ≡ w % 256 = omega (arith, small 0, small 1) in
    let second : b ≡ w / 256 % 256 = omega (arith, small 0, small 1) in
    ap₂ (λ x y. x ∷ y ∷ w / 65536 % 256 ∷ w / 16777216 % 256 ∷ []) first second
begins (a ∷ b ∷ c ∷ []) w small short fits is =
    let first : a ≡ w % 256 = omega (arith, small 0, small 1, small 2) in
    let second : b ≡ w / 256 % 256 = omega (arith, small 0, small 1, small 2) in
    let third : c ≡ w / 65536 % 256 = omega (arith, small 0, small 1, small 2) in
    ap₂ (λ x y. x ∷ y) first (ap₂ (λ x y. x ∷ y ∷ w / 16777216 % 256 ∷ []) second third)
begins (a ∷ b ∷ c ∷ d ∷ bytes) w small short fits is = absurd (omega arith)

-- four bytes of a number that is known
pub whole : (bytes : List ℕ) → AreBytes bytes → 4 ≤ length bytes → bytes ≡ number_bytes (little_number 4 bytes) ++ drop 4 bytes
whole [] small long = absurd (omega arith)
whole (a ∷ []) small long = absurd (omega arith)
whole (a ∷ b ∷ []) small long = absurd (omega arith)
whole (a ∷ b ∷ c ∷ []) small long = absurd (omega arith)
whole (a ∷ b ∷ c ∷ d ∷ bytes) small long = is ∙ sym (as_four n bytes)
  where
    n : ℕ
    n = little_number 4 (a ∷ b ∷ c ∷ d ∷ bytes)

    is : a ∷ b ∷ c ∷ d ∷ bytes ≡ Four n bytes
    is =
        let first : a ≡ n % 256 = omega (arith, small 0, small 1, small 2, small 3) in
        let second : b ≡ n / 256 % 256 = omega (arith, small 0, small 1, small 2, small 3) in
        let third : c ≡ n / 65536 % 256 = omega (arith, small 0, small 1, small 2, small 3) in
        let fourth : d ≡ n / 16777216 % 256 = omega (arith, small 0, small 1, small 2, small 3) in
        ap₂ (λ x y. x ∷ y) first (ap₂ (λ x y. x ∷ y) second (ap₂ (λ x y. x ∷ y ∷ bytes) third fourth))

pub long : (n : ℕ) → length (number_bytes n) ≡ 4
unfolding number_bytes
long n = refl

-- the least number begins with the bytes
beginning : (bytes : List ℕ) (r : Range) (w : ℕ) → AreBytes bytes → length bytes < 4 → IsLeastNumber bytes r w → w % 256 ^ length bytes ≡ little_number 4 bytes
beginning [] r w small short is = omega arith
beginning (a ∷ []) r w small short is = elim (cases_lt (little_number 4 (a ∷ [])) r.least) [
  | inl below ↦ omega (arith, is.beyond below, small 0)
  | inr within ↦ omega (arith, is.known within, small 0)
]
beginning (a ∷ b ∷ []) r w small short is = elim (cases_lt (little_number 4 (a ∷ b ∷ [])) r.least) [
  | inl below ↦ omega (arith, is.beyond below, small 0, small 1)
  | inr within ↦ omega (arith, is.known within, small 0, small 1)
]
beginning (a ∷ b ∷ c ∷ []) r w small short is = elim (cases_lt (little_number 4 (a ∷ b ∷ c ∷ [])) r.least) [
  | inl below ↦ omega (arith, is.beyond below, small 0, small 1, small 2)
  | inr within ↦ omega (arith, is.known within, small 0, small 1, small 2)
]
beginning (a ∷ b ∷ c ∷ d ∷ bytes) r w small short is = absurd (omega arith)

positive : (k : ℕ) → 1 ≤ 256 ^ k
positive zero = omega arith
positive (suc k) = let p = positive k in rw (pow-succ') (omega arith)

enough : (bytes : List ℕ) (r : Range) (w : ℕ) → r.least ≤ 1 → IsLeastNumber bytes r w → r.least ≤ w
enough bytes r w least is = elim (cases_lt (little_number 4 bytes) r.least) [
  | inl below ↦ omega (arith, is.beyond below, positive (min (length bytes) 4))
  | inr within ↦ omega (arith, is.known within)
]

length_more : (w k : ℕ) → k < 4 → length (drop k (Four w [])) + k ≡ 4
length_more w k short = omega (arith, length-drop k (Four w []))

pub begun : (bytes : List ℕ) (r : Range) (w : ℕ) → AreBytes bytes → length bytes < 4 → r.least ≤ 1 → r.most < 2 ^ 32 → IsLeastNumber bytes r w → w ≤ r.most → IsBegun (AreNumbers (r ∷ [])) bytes
begun bytes r w small short least most is within = record {
  more = drop (length bytes) (Four w []);
  some = λ none. absurd (omega (arith, length_more w (length bytes) short, ap length none));
  text = (w ∷ [], ((enough bytes r w least is, within), tt), begins bytes w small short (omega arith) (beginning bytes r w small short is) ∙ sym (ap (λ x. x ++ []) (sym (append-nil (number_bytes w)) ∙ as_four w []) ∙ append-nil (Four w [])));
  unfinished = λ x rest text same.
      let one = one_of r x [] bytes rest text (append-nil bytes ∙ same) in
      absurd (omega (arith, ap length one.2, length-append bytes [], length-append (number_bytes one.0) rest, long one.0));
}

-- a number that is known is in its range
pub known_of : (bytes : List ℕ) (r : Range) (w n : ℕ) → AreBytes bytes → 4 ≤ length bytes → r.least ≤ 1 → r.most < 2 ^ 32 → IsLeastNumber bytes r w → w ≤ r.most → n ≡ little_number 4 bytes → IsIn r n
known_of bytes r w n small full least most is within value = elim (cases_lt (little_number 4 bytes) r.least) [
  | inl below ↦
      let four : min (length bytes) 4 ≡ 4 = omega arith in
      let beyond : w ≡ little_number 4 bytes + 256 ^ 4 = is.beyond below ∙ ap (λ k. little_number 4 bytes + 256 ^ k) four in
      absurd (omega arith)
  | inr above ↦ let known = is.known above in (omega arith, omega arith)
]
