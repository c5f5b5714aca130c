use Rattle.std.proofs.Common.{rules, ◌*◌, ◌++◌, ◌∷◌, [], List, arith, ap₂, sym, ◌∙◌}
use Rattle.guest_memory.specs.Guest.{memory_of}
use Rattle.guest_kernel.specs.declared.parts.IoVec.{IoVec}
use Rattle.guest_kernel.proofs.Reach.{readable_end, reads_within}
use Rattle.guest_calls.proofs.PartLists.{parts_snoc}
use Rattle.guest_calls.proofs.vectors.parts_at.Goals as goal

pub overflow_add-at : goal.overflow_add-at
overflow_add-at c =
    let inside = c.loop-i-test.true in
    omega (arith, inside, readable_end (memory_of c.args.memory.now) c.args.at (8 * c.args.count) c.requires.reach (omega (arith, inside)))

pub part_at-requires-clause-reach : goal.part_at-requires-clause-reach
part_at-requires-clause-reach c =
    let inside = c.loop-i-test.true in
    reads_within (memory_of c.args.memory.now) c.args.at (8 * c.args.count) (8 * c.loop-i.i) 8 c.requires.reach (omega (arith, inside))

pub part_at-requires-clause-end : goal.part_at-requires-clause-end
part_at-requires-clause-end c =
    let inside = c.loop-i-test.true in
    omega (arith, inside, readable_end (memory_of c.args.memory.now) c.args.at (8 * c.args.count) c.requires.reach (omega (arith, inside)))

pub loop-i-preserved : goal.loop-i-preserved
loop-i-preserved c = record {
  parts = c.in_ok-push.ensures.items
      ∙ (ap₂ (λ (ps : List IoVec) (p : IoVec). ps ++ p ∷ []) c.loop-i.invariant.parts c.part_at.ensures
      ∙ sym (parts_snoc (memory_of c.args.memory.now) c.args.at c.loop-i.i));
  count = search rules;
}
