use Rattle.std.proofs.Common.{◌≡◌, ℕ, ◌+◌, ◌<◌, ◌++◌, length, set, Some, List, refl, ap, ap₂, sym, append-nil, length-set, ◌∙◌, arith, length-append, append_assoc}
use Rattle.std.specs.List.{flat_map, range_with_len}
use Rattle.rv_asm.specs.Draft.{Draft}
use Rattle.rv_asm.specs.declared.line.Line.{Line}
use Rattle.demo_guest.specs.Guest.{routine_start}
use Rattle.demo_guest.specs.Private.Drafts.{routine_lines}
use Rattle.demo_guest.proofs.Labels.{label_number, bound_more, first_stays, second_stays, unbound_rest}
use Rattle.demo_guest.proofs.Lines.{lines_size}
use Rattle.demo_guest.proofs.Ranges.{flat_map_more, words_more, words_none, words_within}
use Rattle.demo_guest.proofs.code.emit_routines.Goals as goal

pub loop-routine-init : goal.loop-routine-init
loop-routine-init c = record {
  lines = sym (append-nil c.args.program.now.lines);
  size = omega (arith, c.requires.begin, words_none);
  count = c.requires.bindings;
  bound = λ k h. absurd (omega arith);
  unbound = λ k h. c.requires.unbound k;
  main = refl;
  worker = refl;
}

pub bind-requires-clause-label : goal.bind-requires-clause-label
bind-requires-clause-label c =
    let is : c.index-labels-routine.result ≡ 2 + c.loop-routine.routine = label_number _ _ _ c.requires.labels c.loop-routine-test.true c.index-labels-routine.is in
    omega (arith, is, c.loop-routine.invariant.count, c.loop-routine-test.true)

pub bind-requires-clause-once : goal.bind-requires-clause-once
bind-requires-clause-once c =
    let is : c.index-labels-routine.result ≡ 2 + c.loop-routine.routine = label_number _ _ _ c.requires.labels c.loop-routine-test.true c.index-labels-routine.is in
    rw is (c.loop-routine.invariant.unbound c.loop-routine.routine (omega arith))

pub emit_routine-requires : goal.emit_routine-requires
emit_routine-requires c =
    record { room = rw c.bind.ensures.bound (omega (arith, c.loop-routine.invariant.size, words_within c.loop-routine.routine, c.requires.few, c.loop-routine-test.true)) }

pub loop-routine-preserved : goal.loop-routine-preserved
loop-routine-preserved c =
    let k : ℕ = c.loop-routine.routine in
    let n : ℕ = length c.args.labels.now in
    let is : c.index-labels-routine.result ≡ 2 + k = label_number _ _ _ c.requires.labels c.loop-routine-test.true c.index-labels-routine.is in
    let inside : 2 + k < length c.loop-routine.program.bindings = omega (arith, c.loop-routine.invariant.count, c.loop-routine-test.true) in
    let bound : c.bind.new.program.bindings ≡ set c.loop-routine.program.bindings (2 + k) (Some (routine_start n k))
    = ap (λ (d : Draft). d.bindings) c.bind.ensures.bound ∙ ap₂ (λ (l : ℕ) (p : ℕ). set c.loop-routine.program.bindings l (Some p)) is c.loop-routine.invariant.size in
    let bindings : c.emit_routine.new.program.bindings ≡ set c.loop-routine.program.bindings (2 + k) (Some (routine_start n k))
    = c.in_ok-emit_routine.ensures.bindings ∙ bound in
    let lines : c.emit_routine.new.program.lines ≡ c.loop-routine.program.lines ++ routine_lines k
    = c.in_ok-emit_routine.ensures.lines ∙ ap (λ (d : Draft). d.lines ++ routine_lines k) c.bind.ensures.bound in
    let all : c.emit_routine.new.program.lines ≡ c.args.program.now.lines ++ flat_map routine_lines (range_with_len 0 (k + 1))
    = lines ∙ ap (λ (ls : List Line). ls ++ routine_lines k) c.loop-routine.invariant.lines
    ∙ append_assoc c.args.program.now.lines (flat_map routine_lines (range_with_len 0 k)) (routine_lines k)
    ∙ ap (λ (ls : List Line). c.args.program.now.lines ++ ls) (sym (flat_map_more routine_lines k)) in
    record {
      lines = all;
      size = omega (arith, ap length lines, length-append c.loop-routine.program.lines (routine_lines k), lines_size k, words_more k, c.loop-routine.invariant.size);
      count = omega (arith, ap length bindings, length-set c.loop-routine.program.bindings (2 + k) (Some (routine_start n k)), c.loop-routine.invariant.count);
      bound = rw bindings (bound_more n k c.loop-routine.program.bindings inside c.loop-routine.invariant.bound);
      unbound = rw bindings (unbound_rest n k c.loop-routine.program.bindings inside c.loop-routine.invariant.unbound);
      main = rw bindings (first_stays n k c.loop-routine.program.bindings inside ∙ c.loop-routine.invariant.main);
      worker = rw bindings (second_stays n k c.loop-routine.program.bindings inside ∙ c.loop-routine.invariant.worker);
    }
