-- The instructions of the demo have words.
use Rattle.std.proofs.Common.{◌≡◌, ℕ, zero, suc, ◌+◌, ◌*◌, ◌<◌, ◌≤◌, List, [], ◌∷◌, ◌++◌, length, map, get_or, Option, subst, arith}
use Rattle.std.specs.Prelude.{pos}
use Rattle.std.specs.List.{flat_map, range_with_len}
use Rattle.guest_words.specs.declared.limits.TheConstants.{DEMO_ROUTINES}
use Rattle.rv_isa.specs.declared.instruction.Instr.{Instr}
use Rattle.rv_isa.specs.declared.instruction.Instr.TheVariants.{Jalr}
use Rattle.rv_isa.specs.Encoding.{IsEncodable, IsImmediate, IsJumpOffset}
use Rattle.rv_asm.specs.declared.line.Line.{Line}
use Rattle.rv_asm.specs.Assembled.{instruction_at, offset_between}
use Rattle.demo_guest.specs.Guest.{load, call, reads, routine_code, routine_start}
use Rattle.demo_guest.proofs.Ranges.{words_within}
use Rattle.demo_guest.proofs.Resolved.{resolved}

-- each instruction has a word
abbrev pub AreEncodable : List Instr → Type 0
AreEncodable [] = Unit {0}
AreEncodable (i ∷ is) = IsEncodable i × AreEncodable is

pub encodable-append : (xs ys : List Instr) → AreEncodable xs → AreEncodable ys → AreEncodable (xs ++ ys)
encodable-append [] ys h k = k
encodable-append (x ∷ xs) ys h k = (h.0, encodable-append xs ys h.1 k)

-- a jump forward of less than a mebibyte
pub forward : (from to : ℕ) → from ≤ to → to ≤ from + 250000 → IsJumpOffset (offset_between from to)
forward from to order near = grind arith

pub calls_encodable : (n k m : ℕ) → n ≤ DEMO_ROUTINES → k + m ≡ n → AreEncodable (flat_map (call n) (range_with_len k m))
calls_encodable n k zero few whole = tt
calls_encodable n k (suc m) few whole =
    let whole-rest : k + 1 + m ≡ n = omega (arith, whole) in
    (forward (10 + 2 * k) (routine_start n k) (omega (arith, whole)) (omega (arith, whole, few, words_within k)), (tt, calls_encodable n (k + 1) m few whole-rest))

load_near : (k : ℕ) → k < 4 → IsImmediate (pos (4 * k))
load_near k small = grind arith

pub loads_encodable : (k m : ℕ) → k + m ≤ 4 → AreEncodable (map load (range_with_len k m))
loads_encodable k zero few = tt
loads_encodable k (suc m) few = (load_near k (omega arith), loads_encodable (k + 1) m (omega (arith, few)))

pub routines_encodable : (xs : List ℕ) → AreEncodable (flat_map routine_code xs)
routines_encodable [] = tt
routines_encodable (x ∷ xs) =
    let back : IsEncodable (Jalr 0 1 (pos 0)) = load_near 0 (omega arith) in
    encodable-append (routine_code x) (flat_map routine_code xs)
    (encodable-append (map load (range_with_len 0 (reads x))) (Jalr 0 1 (pos 0) ∷ []) (loads_encodable 0 (reads x) (omega arith)) (back, tt))
    (routines_encodable xs)

-- what stands for a line has a word
pub encodable_at : (bindings : List (Option ℕ)) (at : ℕ) (ls : List Line) → AreEncodable (resolved bindings at ls)
    → (k : ℕ) → k < length ls → (line : Line) → IsEncodable (instruction_at bindings (at + k) (get_or ls k line))
encodable_at bindings at [] all k inside line = absurd (omega (arith, inside))
encodable_at bindings at (l ∷ ls) all zero inside line =
    let same : at ≡ at + 0 = omega arith in
    subst (λ (a : ℕ). IsEncodable (instruction_at bindings a l)) same all.0
encodable_at bindings at (l ∷ ls) all (suc k) inside line =
    let next : at + 1 + k ≡ at + suc k = omega arith in
    subst (λ (a : ℕ). IsEncodable (instruction_at bindings a (get_or ls k line))) next (encodable_at bindings (at + 1) ls all.1 k (omega (arith, inside)) line)
