use Rattle.std.proofs.Common.{◌≡◌, ℕ, ◌+◌, ◌++◌, ◌∷◌, [], List, decimal, map, ap, ap₂, sym, ◌∙◌, arith, append-nil, append_assoc}
use Rattle.std.specs.List.{range_with_len}
use Rattle.rv_asm.specs.declared.executable.Symbol.{Symbol}
use Rattle.demo_guest.specs.Image.{address, routine_symbol}
use Rattle.demo_guest.proofs.Ranges.{map_more, words_more, words_none, words_within}
use Rattle.demo_guest.proofs.names.push_routines.Goals as goal

pub loop-routine-init : goal.loop-routine-init
loop-routine-init c = record {
  symbols = sym (append-nil c.args.symbols.now.items);
  word = omega (arith, words_none);
}

pub routine_symbol-requires-clause-word : goal.routine_symbol-requires-clause-word
routine_symbol-requires-clause-word c = omega (arith, c.loop-routine.invariant.word, words_within c.loop-routine.routine, c.requires, c.loop-routine-test.true)

pub loop-routine-preserved : goal.loop-routine-preserved
loop-routine-preserved c =
    let k : ℕ = c.loop-routine.routine in
    let n : ℕ = c.args.routines in
    let symbol : c.in_ok-routine_symbol.field-0 ≡ routine_symbol n k
    = c.in_ok-routine_symbol.ensures ∙ ap (λ (p : ℕ). record { name = 114 ∷ decimal (k + 1); at = address p }) c.loop-routine.invariant.word in
    record {
      symbols = c.in_ok-push.ensures.items ∙ ap₂ (λ (ss : List Symbol) (s : Symbol). ss ++ s ∷ []) c.loop-routine.invariant.symbols symbol
          ∙ append_assoc c.args.symbols.now.items (map (routine_symbol n) (range_with_len 0 k)) (routine_symbol n k ∷ [])
          ∙ ap (λ (ss : List Symbol). c.args.symbols.now.items ++ ss) (sym (map_more (routine_symbol n) k));
      word = omega (arith, c.loop-routine.invariant.word, words_more k);
    }
