use Rattle.std.proofs.Common.{◌≡◌, ℕ, ◌++◌, ◌∷◌, [], List, length, map, ap, sym, ◌∙◌, arith, append_assoc, length-append}
use Rattle.std.specs.List.{range_with_len}
use Rattle.rv_isa.specs.declared.instruction.Instr.{Instr}
use Rattle.rv_asm.specs.declared.line.Line.{Line}
use Rattle.rv_asm.specs.Draft.{Draft}
use Rattle.demo_guest.specs.Guest.{load}
use Rattle.demo_guest.specs.Private.Drafts.{plain}
use Rattle.demo_guest.proofs.Lines.{loads_more}
use Rattle.demo_guest.proofs.code.emit_routine.Goals as goal

pub loop-k-preserved : goal.loop-k-preserved
loop-k-preserved c =
    let k : ℕ = c.loop-k.k in
    let line : c.emit.new.program.lines ≡ c.loop-k.program.lines ++ plain (load k) ∷ []
    = ap (λ (d : Draft). d.lines) c.in_ok-emit.ensures.line ∙ ap (λ (i : Instr). c.loop-k.program.lines ++ plain i ∷ []) c.load.ensures.load in
    let loads : List Line = map plain (map load (range_with_len 0 k)) in
    record {
      lines = line ∙ ap (λ (ls : List Line). ls ++ plain (load k) ∷ []) c.loop-k.invariant.lines
          ∙ append_assoc c.args.program.now.lines loads (plain (load k) ∷ [])
          ∙ ap (λ (ls : List Line). c.args.program.now.lines ++ ls) (sym (loads_more k));
      size = omega (arith, ap length line, length-append c.loop-k.program.lines (plain (load k) ∷ []), c.loop-k.invariant.size);
      bindings = ap (λ (d : Draft). d.bindings) c.in_ok-emit.ensures.line ∙ c.loop-k.invariant.bindings;
    }
