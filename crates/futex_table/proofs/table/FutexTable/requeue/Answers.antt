use Rattle.std.proofs.Common.{◌≡◌, ◌+◌, ◌++◌, ap, ap₂, sym, ◌∙◌, subst, length, map, arith}
use Rattle.std.proofs.lemmas.List.{length-append, length-map}
use Rattle.futex_table.specs.Once.{IsOnce}
use Rattle.futex_table.specs.Waiting.{moved_to, all_bits, woken, without}
use Rattle.futex_table.proofs.Partitions.{IsOnce-shifted}
use Rattle.futex_table.proofs.table.FutexTable.requeue.Goals as goal

pub invariant_of-self : goal.invariant_of-self
invariant_of-self c =
    let old = c.self.invariant in
    let out = c.take_out.ensures in
    let before = c.self.inside.waiting.items in
    let gone = woken before c.args.at c.args.shift all_bits in
    let after : c.add_moved.new.waiting.items ≡ without before gone ++ map (moved_to c.args.to) gone =
    c.add_moved.ensures.added ∙ ap₂ (λ a b. a ++ map (moved_to c.args.to) b) out.waiting (c.as_slice.ensures.value ∙ out.taken) in
    let long : length c.add_moved.new.waiting.items ≡ length (without before gone) + length gone =
    ap length after ∙ length-append (without before gone) (map (moved_to c.args.to) gone) ∙ ap (λ n. length (without before gone) + n) (length-map gone (moved_to c.args.to)) in
    let stay = ap length out.waiting in
    let went = ap length out.taken in
    record {
      once = subst IsOnce (sym after) (IsOnce-shifted before c.args.at all_bits c.args.shift c.args.to old.once);
      few = omega (arith, out.all, old.few, stay, went, c.take_out.new.waiting.ok.0, c.take_out.new.taken.ok.0, c.self.inside.waiting.ok.0);
      none_spare = out.none_spare;
      none_taken = c.clear.ensures.items;
      room = c.add_moved.ensures.room;
      room_spare = out.room_spare;
      room_taken = omega (arith, c.clear.ensures.capacity, out.room_taken);
    }
