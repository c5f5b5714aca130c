-- What the lines of the demo stand for, once its labels are bound.
use Rattle.std.proofs.Common.{◌≡◌, ℕ, zero, suc, ◌+◌, ◌*◌, ◌<◌, List, [], ◌∷◌, ◌++◌, length, map, get_or, Some, Option, refl, ap, ap₂, subst, sym, ◌∙◌, arith}
use Rattle.std.specs.List.{flat_map, range_with_len}
use Rattle.std.proofs.lemmas.List.{map-append}
use Rattle.std.specs.Prelude.{unwrap_or}
use Rattle.rv_isa.specs.declared.instruction.Instr.{Instr}
use Rattle.rv_isa.specs.declared.instruction.Instr.TheVariants.{Ecall, Jal}
use Rattle.rv_isa.specs.Table.{decoded}
use Rattle.rv_asm.specs.declared.line.Line.{Line}
use Rattle.rv_asm.specs.Assembled.{instruction_at, offset_between, binding_of}
use Rattle.demo_guest.specs.Guest.{call, routine_code, routine_start, start}
use Rattle.demo_guest.specs.Private.Drafts.{call_lines, plain, routine_lines, start_lines, AreBound, AreRoutines}

-- the instructions of lines, of which the first stands at a word
abbrev pub resolved : List (Option ℕ) → ℕ → List Line → List Instr
resolved bindings at [] = []
resolved bindings at (line ∷ rest) = instruction_at bindings at line ∷ resolved bindings (at + 1) rest

pub resolved-append : (bindings : List (Option ℕ)) (at end : ℕ) (xs ys : List Line) → at + length xs ≡ end
    → resolved bindings at (xs ++ ys) ≡ resolved bindings at xs ++ resolved bindings end ys
resolved-append bindings at end [] ys same =
    let begin : at ≡ end = omega (arith, same) in
    ap (λ (k : ℕ). resolved bindings k ys) begin
resolved-append bindings at end (x ∷ xs) ys same =
    let next : at + 1 + length xs ≡ end = omega (arith, same) in
    ap (λ (is : List Instr). instruction_at bindings at x ∷ is) (resolved-append bindings (at + 1) end xs ys next)

pub resolved-plain : (bindings : List (Option ℕ)) (at : ℕ) (is : List Instr) → resolved bindings at (map plain is) ≡ is
resolved-plain bindings at [] = refl
resolved-plain bindings at (i ∷ is) = ap (λ (rest : List Instr). i ∷ rest) (resolved-plain bindings (at + 1) is)

-- the calls from a routine on
pub resolved-calls : (n : ℕ) (bindings : List (Option ℕ)) → AreRoutines n n bindings → (k m at label : ℕ) → k + m ≡ n → 10 + 2 * k ≡ at → 2 + k ≡ label
    → resolved bindings at (flat_map call_lines (range_with_len label m)) ≡ flat_map (call n) (range_with_len k m)
resolved-calls n bindings bound k zero at label whole begin is = refl
resolved-calls n bindings bound k (suc m) at label whole begin is =
    let inside : k < n = omega (arith, whole) in
    let bound_at : binding_of bindings label ≡ Some (routine_start n k) = subst (λ (l : ℕ). binding_of bindings l ≡ Some (routine_start n k)) is (bound k inside) in
    let whole-rest : k + 1 + m ≡ n = omega (arith, whole) in
    let begin-rest : 10 + 2 * (k + 1) ≡ at + 1 + 1 = omega (arith, begin) in
    let is-rest : 2 + (k + 1) ≡ label + 1 = omega (arith, is) in
    let rest : resolved bindings (at + 1 + 1) (flat_map call_lines (range_with_len (label + 1) m)) ≡ flat_map (call n) (range_with_len (k + 1) m)
    = resolved-calls n bindings bound (k + 1) m (at + 1 + 1) (label + 1) whole-rest begin-rest is-rest in
    ap₂ (λ (i : Instr) (more : List Instr). i ∷ Ecall ∷ more)
    (ap₂ (λ (p : Option ℕ) (from : ℕ). Jal 1 (offset_between from (unwrap_or p 0))) bound_at (sym begin)) rest

pub resolved-start : (n : ℕ) (bindings : List (Option ℕ)) → AreBound n bindings → resolved bindings 0 start_lines ≡ start
resolved-start n bindings bound = rw (bound.main, bound.worker) refl

pub plain_routines : (xs : List ℕ) → flat_map routine_lines xs ≡ map plain (flat_map routine_code xs)
plain_routines [] = refl
plain_routines (x ∷ xs) = ap (λ (more : List Line). routine_lines x ++ more) (plain_routines xs) ∙ sym (map-append plain (routine_code x) (flat_map routine_code xs))

-- words that stand for each line's instruction stand for all
pub all_decoded : (bindings : List (Option ℕ)) (at : ℕ) (ls : List Line) (words : List ℕ) → length words ≡ length ls
    → ((k : ℕ) → k < length ls → (line : Line) → decoded (get_or words k 0) ≡ Some (instruction_at bindings (at + k) (get_or ls k line)))
    → map decoded words ≡ map Some (resolved bindings at ls)
all_decoded bindings at [] [] count each = refl
all_decoded bindings at [] (w ∷ ws) count each = absurd (omega (arith, count))
all_decoded bindings at (l ∷ ls) [] count each = absurd (omega (arith, count))
all_decoded bindings at (l ∷ ls) (w ∷ ws) count each =
    let same : at + 0 ≡ at = omega arith in
    let first : decoded w ≡ Some (instruction_at bindings at l)
    = subst (λ (a : ℕ). decoded w ≡ Some (instruction_at bindings a l)) same (each 0 (omega arith) l) in
    let next : (k : ℕ) → at + suc k ≡ at + 1 + k = λ k. omega arith in
    let rest : map decoded ws ≡ map Some (resolved bindings (at + 1) ls)
    = all_decoded bindings (at + 1) ls ws (omega (arith, count)) (λ k inside line.
    subst (λ (a : ℕ). decoded (get_or ws k 0) ≡ Some (instruction_at bindings a (get_or ls k line))) (next k) (each (suc k) (omega arith) line)) in
    ap₂ (λ (i : Option Instr) (more : List (Option Instr)). i ∷ more) first rest
