use Rattle.std.proofs.Common.{◌≡◌, ℕ, ◌+◌, ◌*◌, ◌<◌, ◌++◌, List, Option, length, map, get_or, ap, ap₂, sym, subst, ◌∙◌, arith, length-append, append_assoc}
use Rattle.std.specs.List.{flat_map, range_with_len}
use Rattle.std.proofs.lemmas.List.FromFn.{length-range_with_len}
use Rattle.rv_asm.specs.declared.line.Line.{Line}
use Rattle.rv_asm.specs.Assembled.{binding_of}
use Rattle.demo_guest.specs.Guest.{ending}
use Rattle.demo_guest.specs.Private.Drafts.{call_lines, lines, plain, routine_lines, start_lines, AreRoutines}
use Rattle.demo_guest.proofs.Labels.{labels_within}
use Rattle.demo_guest.proofs.Lines.{calls_size}
use Rattle.demo_guest.proofs.code.demo_program.Goals as goal

-- there are as many labels as routines
count : (labels : List ℕ) (n : ℕ) → labels ≡ range_with_len 2 n → length labels ≡ n
count labels n is = ap length is ∙ length-range_with_len 2 n

-- where the calls and the end of threads are written
calls_end : (old new : List Line) (labels : List ℕ) → old ≡ start_lines → new ≡ old ++ flat_map call_lines labels → length new ≡ 10 + 2 * length labels
calls_end old new labels first then_calls = omega (arith, ap length then_calls, length-append old (flat_map call_lines labels), calls_size labels, ap length first)

pub emit_calls-requires-clause-room : goal.emit_calls-requires-clause-room
emit_calls-requires-clause-room c =
    let labels : c.deref.result.now ≡ range_with_len 2 c.args.routines = c.deref.ensures.value ∙ c.in_ok-labels.ensures.labels in
    omega (arith, count c.deref.result.now c.args.routines labels, ap length c.in_ok-emit_start.ensures.lines, c.requires)

pub emit_calls-requires-clause-labels : goal.emit_calls-requires-clause-labels
emit_calls-requires-clause-labels c = λ k d inside.
    (let labels : c.deref.result.now ≡ range_with_len 2 c.args.routines = c.deref.ensures.value ∙ c.in_ok-labels.ensures.labels in
    let within : get_or (range_with_len 2 c.args.routines) k d < 2 + c.args.routines = labels_within c.args.routines k d (subst (λ (ls : List ℕ). k < length ls) labels inside) in
    omega (arith, within, ap (λ (ls : List ℕ). get_or ls k d) labels, c.in_ok-emit_start.ensures.bindings.count, c.in_ok-labels.ensures.bindings))

pub emit_ending-requires : goal.emit_ending-requires
emit_ending-requires c =
    let labels : c.deref.result.now ≡ range_with_len 2 c.args.routines = c.deref.ensures.value ∙ c.in_ok-labels.ensures.labels in
    record {
      room = omega (
        arith,
        count c.deref.result.now c.args.routines labels,
        calls_end c.emit_start.new.program.lines c.emit_calls.new.program.lines c.deref.result.now c.in_ok-emit_start.ensures.lines c.in_ok-emit_calls.ensures.lines,
        c.requires,
      );
    }

pub emit_routines-requires-clause-few : goal.emit_routines-requires-clause-few
emit_routines-requires-clause-few c =
    let labels : c.deref-2.result.now ≡ range_with_len 2 c.args.routines = c.deref-2.ensures.value ∙ c.in_ok-labels.ensures.labels in
    omega (arith, count c.deref-2.result.now c.args.routines labels, c.requires)

pub emit_routines-requires-clause-labels : goal.emit_routines-requires-clause-labels
emit_routines-requires-clause-labels c =
    let labels : c.deref-2.result.now ≡ range_with_len 2 c.args.routines = c.deref-2.ensures.value ∙ c.in_ok-labels.ensures.labels in
    labels ∙ ap (range_with_len 2) (sym (count c.deref-2.result.now c.args.routines labels))

pub emit_routines-requires-clause-begin : goal.emit_routines-requires-clause-begin
emit_routines-requires-clause-begin c =
    let labels : c.deref.result.now ≡ range_with_len 2 c.args.routines = c.deref.ensures.value ∙ c.in_ok-labels.ensures.labels in
    let labels-2 : c.deref-2.result.now ≡ range_with_len 2 c.args.routines = c.deref-2.ensures.value ∙ c.in_ok-labels.ensures.labels in
    omega (
      arith,
      count c.deref.result.now c.args.routines labels,
      count c.deref-2.result.now c.args.routines labels-2,
      calls_end c.emit_start.new.program.lines c.emit_calls.new.program.lines c.deref.result.now c.in_ok-emit_start.ensures.lines c.in_ok-emit_calls.ensures.lines,
      ap length c.in_ok-emit_ending.ensures.lines,
      length-append c.emit_calls.new.program.lines (map plain ending),
    )

pub emit_routines-requires-clause-bindings : goal.emit_routines-requires-clause-bindings
emit_routines-requires-clause-bindings c =
    let labels-2 : c.deref-2.result.now ≡ range_with_len 2 c.args.routines = c.deref-2.ensures.value ∙ c.in_ok-labels.ensures.labels in
    omega (
      arith,
      count c.deref-2.result.now c.args.routines labels-2,
      ap length c.in_ok-emit_ending.ensures.bindings,
      ap length c.in_ok-emit_calls.ensures.bindings,
      c.in_ok-emit_start.ensures.bindings.count,
      c.in_ok-labels.ensures.bindings,
    )

-- the parts one after another are the whole code
joined : (n : ℕ) (labels other : List ℕ) (a b d e : List Line) → labels ≡ range_with_len 2 n → other ≡ range_with_len 2 n → a ≡ start_lines
    → b ≡ a ++ flat_map call_lines labels → d ≡ b ++ map plain ending → e ≡ d ++ flat_map routine_lines (range_with_len 0 (length other)) → e ≡ lines n
unfolding lines
joined n labels other a b d e is also-is first then_calls then_ending then_routines =
    let calls : List Line = flat_map call_lines (range_with_len 2 n) in
    let routines : List Line = flat_map routine_lines (range_with_len 0 n) in
    let b-is : b ≡ start_lines ++ calls = then_calls ∙ ap₂ (λ (ls : List Line) (xs : List ℕ). ls ++ flat_map call_lines xs) first is in
    let d-is : d ≡ (start_lines ++ calls) ++ map plain ending = then_ending ∙ ap (λ (ls : List Line). ls ++ map plain ending) b-is in
    let e-is : e ≡ ((start_lines ++ calls) ++ map plain ending) ++ routines
    = then_routines ∙ ap₂ (λ (ls : List Line) (m : ℕ). ls ++ flat_map routine_lines (range_with_len 0 m)) d-is (count other n also-is) in
    e-is ∙ append_assoc (start_lines ++ calls) (map plain ending) routines ∙ append_assoc start_lines calls (map plain ending ++ routines)

pub returns-clause-lines : goal.returns-clause-lines
returns-clause-lines c =
    let labels : c.deref.result.now ≡ range_with_len 2 c.args.routines = c.deref.ensures.value ∙ c.in_ok-labels.ensures.labels in
    let labels-2 : c.deref-2.result.now ≡ range_with_len 2 c.args.routines = c.deref-2.ensures.value ∙ c.in_ok-labels.ensures.labels in
    joined c.args.routines c.deref.result.now c.deref-2.result.now c.emit_start.new.program.lines c.emit_calls.new.program.lines
    c.emit_ending.new.program.lines c.emit_routines.new.program.lines labels labels-2 c.in_ok-emit_start.ensures.lines
    c.in_ok-emit_calls.ensures.lines c.in_ok-emit_ending.ensures.lines c.in_ok-emit_routines.ensures.lines

pub returns-clause-bindings : goal.returns-clause-bindings
returns-clause-bindings c =
    let labels-2 : c.deref-2.result.now ≡ range_with_len 2 c.args.routines = c.deref-2.ensures.value ∙ c.in_ok-labels.ensures.labels in
    let stay : c.emit_ending.new.program.bindings ≡ c.emit_start.new.program.bindings = c.in_ok-emit_ending.ensures.bindings ∙ c.in_ok-emit_calls.ensures.bindings in
    record {
      main = c.in_ok-emit_routines.ensures.main ∙ ap (λ (p : List (Option ℕ)). binding_of p 0) stay ∙ c.in_ok-emit_start.ensures.bindings.main;
      worker = c.in_ok-emit_routines.ensures.worker ∙ ap (λ (p : List (Option ℕ)). binding_of p 1) stay ∙ c.in_ok-emit_start.ensures.bindings.worker;
      bound = subst (λ (m : ℕ). AreRoutines m m c.emit_routines.new.program.bindings) (count c.deref-2.result.now c.args.routines labels-2) c.in_ok-emit_routines.ensures.bound;
    }
