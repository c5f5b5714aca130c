-- The demo's program is accepted, and its words stand for the demo's instructions.
use Rattle.std.proofs.Common.{rules, ◌≡◌, ℕ, ◌+◌, ◌*◌, ◌≤◌, ◌<◌, ◌^◌, List, [], ◌∷◌, suc, None, ◌++◌, length, map, get_or, Some, Option, true, refl, ap, ap₂, subst, sym, ◌∙◌, arith}
use Rattle.std.specs.List.{AllByRecursion, flat_map, range_with_len}
use Rattle.std.proofs.lemmas.List.FromFn.{length-range_with_len}
use Rattle.guest_words.specs.declared.limits.TheConstants.{DEMO_ROUTINES}
use Rattle.rv_isa.specs.declared.instruction.Instr.{Instr}
use Rattle.rv_isa.specs.declared.instruction.Instr.TheVariants.{Ecall}
use Rattle.rv_isa.specs.Encoding.{IsEncodable}
use Rattle.rv_isa.specs.Table.{decoded}
use Rattle.rv_asm.specs.declared.line.Line.{Line}
use Rattle.rv_asm.specs.Draft.{Draft}
use Rattle.rv_asm.specs.Assembled.{AreAssembled, instruction_at}
use Rattle.rv_asm.specs.Refusals.{first_unbound, IsAccepted}
use Rattle.demo_guest.specs.Guest.{call, ending, instructions, routine_code, start}
use Rattle.demo_guest.specs.Private.Drafts.{call_lines, lines, plain, start_lines, AreBound}
use Rattle.demo_guest.proofs.Encodable.{calls_encodable, encodable-append, encodable_at, routines_encodable, AreEncodable}
use Rattle.demo_guest.proofs.Lines.{calls_size}
use Rattle.demo_guest.proofs.Ready.{are_ready, calls_ready, none_unbound, plain_ready, ready-append, start_ready}
use Rattle.demo_guest.proofs.Resolved.{all_decoded, plain_routines, resolved, resolved-append, resolved-calls, resolved-plain, resolved-start}

-- the lines behind the calls
behind : ℕ → List Instr
behind n = ending ++ flat_map routine_code (range_with_len 0 n)

lines_are : (n : ℕ) → lines n ≡ start_lines ++ (flat_map call_lines (range_with_len 2 n) ++ map plain (behind n))
unfolding lines behind
lines_are n = ap (λ (rest : List Line). start_lines ++ (flat_map call_lines (range_with_len 2 n) ++ (map plain ending ++ rest))) (plain_routines (range_with_len 0 n))

instructions_are : (n : ℕ) → instructions n ≡ start ++ (flat_map (call n) (range_with_len 0 n) ++ behind n)
unfolding instructions behind
instructions_are n = refl

calls_end : (n : ℕ) → 10 + length (flat_map call_lines (range_with_len 2 n)) ≡ 10 + 2 * n
calls_end n = omega (arith, calls_size (range_with_len 2 n), length-range_with_len 2 n)

-- what the lines stand for
pub whole : (n : ℕ) (bindings : List (Option ℕ)) → AreBound n bindings → resolved bindings 0 (lines n) ≡ instructions n
whole n bindings bound =
    let calls : List Line = flat_map call_lines (range_with_len 2 n) in
    let rest : List Line = map plain (behind n) in
    let all : 0 + n ≡ n = omega arith in
    ap (resolved bindings 0) (lines_are n)
    ∙ resolved-append bindings 0 10 start_lines (calls ++ rest) refl
    ∙ ap₂ (λ (a b : List Instr). a ++ b) (resolved-start n bindings bound)
    (resolved-append bindings 10 (10 + 2 * n) calls rest (calls_end n)
    ∙ ap₂ (λ (a b : List Instr). a ++ b) (resolved-calls n bindings bound.bound 0 n 10 2 all refl refl) (resolved-plain bindings (10 + 2 * n) (behind n)))
    ∙ sym (instructions_are n)

start_encodable : AreEncodable start
start_encodable = search rules

ending_encodable : AreEncodable ending
ending_encodable = search rules

behind_encodable : (n : ℕ) → AreEncodable (behind n)
unfolding behind
behind_encodable n = encodable-append ending (flat_map routine_code (range_with_len 0 n)) ending_encodable (routines_encodable (range_with_len 0 n))

encodable : (n : ℕ) → n ≤ DEMO_ROUTINES → AreEncodable (instructions n)
encodable n few =
    let all : 0 + n ≡ n = omega arith in
    subst AreEncodable (sym (instructions_are n))
    (encodable-append start (flat_map (call n) (range_with_len 0 n) ++ behind n) start_encodable
    (encodable-append (flat_map (call n) (range_with_len 0 n)) (behind n) (calls_encodable n 0 n few all) (behind_encodable n)))

ready : (n : ℕ) (bindings : List (Option ℕ)) → AreBound n bindings → are_ready bindings (lines n) ≡ true
ready n bindings bound =
    let all : 0 + n ≡ n = omega arith in
    ap (are_ready bindings) (lines_are n)
    ∙ ready-append bindings start_lines (flat_map call_lines (range_with_len 2 n) ++ map plain (behind n)) (start_ready n bindings bound)
    (ready-append bindings (flat_map call_lines (range_with_len 2 n)) (map plain (behind n)) (calls_ready n bindings bound.bound 0 n 2 all refl) (plain_ready bindings (behind n)))

pub accepted : (n : ℕ) (d : Draft) → n ≤ DEMO_ROUTINES → d.lines ≡ lines n → AreBound n d.bindings → IsAccepted d
accepted n d few is bound =
    let code : AreEncodable (resolved d.bindings 0 d.lines) = subst AreEncodable (sym (ap (resolved d.bindings 0) is ∙ whole n d.bindings bound)) (encodable n few) in
    record {
      bound = ap (first_unbound d.bindings) is ∙ none_unbound d.bindings (lines n) (ready n d.bindings bound);
      reach = λ at inside line some. (let same : 0 + at ≡ at = omega arith in
          subst (λ (a : ℕ). IsEncodable (instruction_at d.bindings a (get_or d.lines at line))) same (encodable_at d.bindings 0 d.lines code at inside line));
    }

pub words_are : (n : ℕ) (d : Draft) (words : List ℕ) → d.lines ≡ lines n → AreBound n d.bindings → AreAssembled d words → map decoded words ≡ map Some (instructions n)
words_are n d words is bound done =
    let each : (k : ℕ) → k < length d.lines → (line : Line) → decoded (get_or words k 0) ≡ Some (instruction_at d.bindings (0 + k) (get_or d.lines k line))
    = λ k inside line. (let same : k ≡ 0 + k = omega arith in
    subst (λ (a : ℕ). decoded (get_or words k 0) ≡ Some (instruction_at d.bindings a (get_or d.lines k line))) same (done.each k inside line).decoded) in
    all_decoded d.bindings 0 d.lines words done.count each ∙ ap (map Some) (ap (resolved d.bindings 0) is ∙ whole n d.bindings bound)

fit_at : (words : List ℕ) → ((k : ℕ) → k < length words → get_or words k 0 < 2 ^ 32) → AllByRecursion (λ word. word < 2 ^ 32) words
fit_at [] each = tt
fit_at (word ∷ words) each = (each 0 (omega arith), fit_at words (λ k inside. each (suc k) (omega (arith, inside))))

-- the words have 32 bits
pub words_fit : (d : Draft) (words : List ℕ) → AreAssembled d words → AllByRecursion (λ word. word < 2 ^ 32) words
words_fit d words done = fit_at words (λ k inside. (done.each k (omega (arith, inside, done.count)) (record { instruction = Ecall; to = None })).fits)
