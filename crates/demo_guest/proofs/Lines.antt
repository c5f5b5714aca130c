-- How many lines the parts of the demo have.
use Rattle.std.proofs.Common.{◌≡◌, ℕ, ◌+◌, ◌*◌, List, [], ◌∷◌, ◌++◌, length, map, ap, refl, ◌∙◌, arith, length-append}
use Rattle.std.specs.List.{flat_map, range_with_len}
use Rattle.std.proofs.lemmas.List.{length-map, map-append}
use Rattle.std.proofs.lemmas.List.FromFn.{length-map-range_with_len}
use Rattle.rv_isa.specs.declared.instruction.Instr.{Instr}
use Rattle.rv_isa.specs.declared.instruction.Instr.TheVariants.{Jalr}
use Rattle.std.specs.Prelude.{pos}
use Rattle.demo_guest.specs.Guest.{load, reads, routine_code}
use Rattle.demo_guest.specs.Private.Drafts.{call_lines, plain, routine_lines}
use Rattle.demo_guest.proofs.Ranges.{from_zero}

pub calls_size : (labels : List ℕ) → length (flat_map call_lines labels) ≡ 2 * length labels
calls_size [] = refl
calls_size (label ∷ rest) = omega (arith, calls_size rest, length-append (call_lines label) (flat_map call_lines rest))

pub code_size : (routine : ℕ) → length (routine_code routine) ≡ reads routine + 1
code_size routine =
    let loads : List Instr = map load (range_with_len 0 (reads routine)) in
    omega (arith, length-append loads (Jalr 0 1 (pos 0) ∷ []), length-map-range_with_len load 0 (reads routine))

pub lines_size : (routine : ℕ) → length (routine_lines routine) ≡ reads routine + 1
lines_size routine = length-map (routine_code routine) plain ∙ code_size routine

pub loads_more : (n : ℕ) → map plain (map load (range_with_len 0 (n + 1)))
    ≡ map plain (map load (range_with_len 0 n)) ++ plain (load n) ∷ []
loads_more n =
    ap (map plain) (ap (map load) (from_zero n) ∙ map-append load (range_with_len 0 n) (n ∷ []))
    ∙ map-append plain (map load (range_with_len 0 n)) (load n ∷ [])
