use Rattle.std.proofs.Common.{◌≡◌, ◌+◌, ◌++◌, ◌∷◌, [], List, length, map, take, ap, sym, ◌∙◌, append_assoc, arith}
use Rattle.std.proofs.lemmas.List.{length-append, map-append, take_more}
use Rattle.futex_table.specs.Waiting.{moved_to}
use Rattle.futex_table.specs.declared.waiter.Waiter.{Waiter}
use Rattle.futex_table.proofs.partition.add_moved.Goals as goal

pub loop-w-preserved : goal.loop-w-preserved
loop-w-preserved c =
    let taken = c.args.taken.now in
    let before = c.args.waiting.now.items in
    let kept = c.loop-w.waiting.items in
    let i = c.loop-w.w-index in
    let w = c.w-item.result in
    let f = moved_to c.args.to in
    let pushed : c.push.new.self.items ≡ kept ++ f w ∷ [] = rw c.unwrap.ensures at c.push.ensures.items in
    let more : take (i + 1) taken ≡ take i taken ++ w ∷ [] = take_more taken i w c.loop-w-test.true ∙ ap (λ v. take i taken ++ v ∷ []) (sym c.w-item.is) in
    record {
      kept_is = pushed ∙ ap (λ (xs : List Waiter). xs ++ f w ∷ []) c.loop-w.invariant.kept_is ∙ append_assoc before (map f (take i taken)) (f w ∷ [])
          ∙ ap (λ (xs : List Waiter). before ++ xs) (sym (ap (map f) more ∙ map-append f (take i taken) (w ∷ [])));
      few = omega (arith, ap length pushed, length-append kept (f w ∷ []), c.loop-w.invariant.few);
      inside = omega arith;
      has_room = omega (arith, c.push.ensures.capacity, c.loop-w.invariant.has_room);
    }
