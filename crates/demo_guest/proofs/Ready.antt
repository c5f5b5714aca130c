-- The labels of all jumps of the demo are bound.
use Rattle.std.proofs.Common.{◌≡◌, ℕ, zero, suc, ◌+◌, ◌<◌, List, [], ◌∷◌, ◌++◌, map, Bool, true, None, Some, Option, refl, subst, ◌∙◌, arith}
use Rattle.std.specs.List.{flat_map, list_all, range_with_len}
use Rattle.std.proofs.lemmas.Bool.{and_parts}
use Rattle.std.proofs.lemmas.List.Folds.{list_all-append}
use Rattle.rv_isa.specs.declared.instruction.Instr.{Instr}
use Rattle.rv_asm.specs.declared.line.Line.{Line}
use Rattle.rv_asm.specs.Assembled.{binding_of}
use Rattle.rv_asm.specs.Refusals.{first_unbound, is_ready}
use Rattle.demo_guest.specs.Guest.{routine_start}
use Rattle.demo_guest.specs.Private.Drafts.{call_lines, plain, start_lines, AreBound, AreRoutines}

-- each line is ready
abbrev pub are_ready : List (Option ℕ) → List Line → Bool
are_ready bindings ls = list_all (λ line. is_ready bindings line.to) ls

pub none_unbound : (bindings : List (Option ℕ)) (ls : List Line) → are_ready bindings ls ≡ true → first_unbound bindings ls ≡ None
none_unbound bindings [] ready = refl
none_unbound bindings (l ∷ ls) ready =
    let parts : (is_ready bindings l.to ≡ true) × (are_ready bindings ls ≡ true) = and_parts (is_ready bindings l.to) (are_ready bindings ls) ready in
    rw parts.0 (none_unbound bindings ls parts.1)

pub ready-append : (bindings : List (Option ℕ)) (xs ys : List Line) → are_ready bindings xs ≡ true → are_ready bindings ys ≡ true → are_ready bindings (xs ++ ys) ≡ true
ready-append bindings xs ys h k = list_all-append (λ line. is_ready bindings line.to) xs ys ∙ rw (h, k) refl

pub plain_ready : (bindings : List (Option ℕ)) (is : List Instr) → are_ready bindings (map plain is) ≡ true
plain_ready bindings [] = refl
plain_ready bindings (i ∷ is) = plain_ready bindings is

pub calls_ready : (n : ℕ) (bindings : List (Option ℕ)) → AreRoutines n n bindings → (k m label : ℕ) → k + m ≡ n → 2 + k ≡ label
    → are_ready bindings (flat_map call_lines (range_with_len label m)) ≡ true
calls_ready n bindings bound k zero label whole is = refl
calls_ready n bindings bound k (suc m) label whole is =
    let inside : k < n = omega (arith, whole) in
    let bound_at : binding_of bindings label ≡ Some (routine_start n k) = subst (λ (l : ℕ). binding_of bindings l ≡ Some (routine_start n k)) is (bound k inside) in
    let whole-rest : k + 1 + m ≡ n = omega (arith, whole) in
    let is-rest : 2 + (k + 1) ≡ label + 1 = omega (arith, is) in
    rw bound_at (calls_ready n bindings bound (k + 1) m (label + 1) whole-rest is-rest)

pub start_ready : (n : ℕ) (bindings : List (Option ℕ)) → AreBound n bindings → are_ready bindings start_lines ≡ true
start_ready n bindings bound = rw (bound.main, bound.worker) refl
