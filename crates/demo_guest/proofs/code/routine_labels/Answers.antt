use Rattle.std.proofs.Common.{◌≡◌, ℕ, ◌+◌, ◌++◌, ◌∷◌, [], None, List, length, ap, ap₂, sym, ◌∙◌, arith, length-append}
use Rattle.rv_asm.specs.Draft.{Draft}
use Rattle.demo_guest.proofs.Labels.{none_more}
use Rattle.demo_guest.proofs.Ranges.{range_more}
use Rattle.demo_guest.proofs.code.routine_labels.Goals as goal

pub loop-preserved : goal.loop-preserved
loop-preserved c =
    let bindings : c.label.new.program.bindings ≡ c.loop.program.bindings ++ None ∷ [] = ap (λ (d : Draft). d.bindings) c.in_ok-label.ensures.made in
    let number : c.in_ok-label.field-0 ≡ 2 + c.loop.counter = c.in_ok-label.ensures.number ∙ c.loop.invariant.bindings in
    record {
      labels = c.in_ok-push.ensures.items ∙ ap₂ (λ (ls : List ℕ) (l : ℕ). ls ++ l ∷ []) c.loop.invariant.labels number ∙ sym (range_more 2 c.loop.counter);
      lines = ap (λ (d : Draft). d.lines) c.in_ok-label.ensures.made ∙ c.loop.invariant.lines;
      bindings = omega (arith, ap length bindings, length-append c.loop.program.bindings (None ∷ []), c.loop.invariant.bindings);
      unbound = rw bindings (none_more c.loop.program.bindings c.loop.invariant.unbound);
    }
