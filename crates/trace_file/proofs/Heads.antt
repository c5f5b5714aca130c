-- Heads of forms.
use Rattle.std.proofs.Common.{Option, Some, None, if◌then◌else◌, nat_eq, ◌≡◌, ℕ, ◌≤◌, ◌++◌, ◌∷◌, [], List, length, get_or, refl, sym, ap, ◌∙◌, arith}
use Rattle.trace_file.specs.declared.records.Form.{Form}
use Rattle.trace_file.specs.declared.records.Form.TheVariants.{Step, Read, Write, Fill, Call, Ret, Start, End, Named, Exit, Fault, Budget, Deadlock, Deep, Schedule}
use Rattle.trace_file.specs.Records.{head}
use Rattle.trace_file.specs.Pieces.{IsBegun}
use Rattle.trace_file.specs.Private.RecordParts.{IsHead}

some : (f : Form) (rest : List ℕ) → 1 ≤ length (head f ++ rest)
some Step rest = omega arith
some _ rest = omega arith

pub begun_empty : (bytes : List ℕ) → length bytes ≡ 0 → IsBegun IsHead bytes
begun_empty [] none = record {
  more = 1 ∷ [];
  some = λ none. cc;
  text = (Step, refl);
  unfinished = λ x rest text same. absurd (omega (arith, some text.0 rest, ap length (same ∙ ap (λ y. y ++ rest) text.1)));
}
begun_empty (a ∷ bytes) none = absurd (omega arith)

-- a head that begins with 10 has two bytes
two : (f : Form) (rest : List ℕ) → get_or (head f ++ rest) 0 0 ≡ 10 → 2 ≤ length (head f ++ rest)
two Exit rest is = omega arith
two Fault rest is = omega arith
two Budget rest is = omega arith
two Deadlock rest is = omega arith
two Deep rest is = omega arith
two Schedule rest is = omega arith
two _ rest is = absurd (omega arith)

pub begun_ten : (bytes : List ℕ) → length bytes ≡ 1 → get_or bytes 0 0 ≡ 10 → IsBegun IsHead bytes
begun_ten [] one is = absurd (omega arith)
begun_ten (a ∷ []) one is = record {
  more = 0 ∷ [];
  some = λ none. cc;
  text = (Exit, ap (λ x. x ∷ 0 ∷ []) is);
  unfinished = λ x rest text same.
      let equal : a ∷ [] ≡ head text.0 ++ rest = same ∙ ap (λ y. y ++ rest) text.1 in
      absurd (omega (arith, two text.0 rest (sym (ap (λ y. get_or y 0 0) equal) ∙ is), ap length equal));
}
begun_ten (a ∷ b ∷ bytes) one is = absurd (omega arith)

-- the form whose head stands first, and what stands behind it
abbrev short : ℕ → List ℕ → Option (Form × List ℕ)
short a rest =
    if nat_eq a 1 then Some (Step, rest) else
    if nat_eq a 2 then Some (Read, rest) else
    if nat_eq a 3 then Some (Write, rest) else
    if nat_eq a 4 then Some (Fill, rest) else
    if nat_eq a 5 then Some (Call, rest) else
    if nat_eq a 6 then Some (Ret, rest) else
    if nat_eq a 7 then Some (Start, rest) else
    if nat_eq a 8 then Some (End, rest) else
    if nat_eq a 9 then Some (Named, rest) else
    None

abbrev end : List ℕ → Option (Form × List ℕ)
end [] = None
end (b ∷ rest) =
    if nat_eq b 0 then Some (Exit, rest) else
    if nat_eq b 1 then Some (Fault, rest) else
    if nat_eq b 2 then Some (Budget, rest) else
    if nat_eq b 3 then Some (Deadlock, rest) else
    if nat_eq b 4 then Some (Deep, rest) else
    if nat_eq b 5 then Some (Schedule, rest) else
    None

abbrev read : List ℕ → Option (Form × List ℕ)
read [] = None
read (a ∷ rest) = if nat_eq a 10 then end rest else short a rest

read_back : (f : Form) (rest : List ℕ) → read (head f ++ rest) ≡ Some (f, rest)
read_back Step rest = refl
read_back _ rest = refl

abbrev first : Option (Form × List ℕ) → Form
first None = Step
first (Some x) = x.0

abbrev behind : Option (Form × List ℕ) → List ℕ
behind None = []
behind (Some x) = x.1

-- heads tell themselves apart
pub one_head : (f g : Form) (xs ys : List ℕ) → head f ++ xs ≡ head g ++ ys → (f ≡ g) × (xs ≡ ys)
one_head f g xs ys same =
    let both : ◌≡◌ {A = Option (Form × List ℕ)} (Some (f, xs)) (Some (g, ys)) = sym (read_back f xs) ∙ ap read same ∙ read_back g ys in
    (ap first both, ap behind both)
