use Rattle.std.proofs.Common.{◌≡◌, ◌∙◌, ◌+◌, ℕ, Option, true, ap, arith}
use Rattle.std.specs.Option.{is_some}
use Rattle.guest_words.specs.declared.rights.Rights.{Rights}
use Rattle.guest_memory.specs.Memory.{Memory, with_rights}
use Rattle.guest_memory.specs.State.{memory_in}
use Rattle.guest_memory.proofs.Counts.{count_of_rights, rights_past}
use Rattle.guest_memory.proofs.PageChanges.{with_rights-last}
use Rattle.guest_memory.proofs.directory.Directory.set_all_rights.Goals as goal

pub set_rights-requires : goal.set_rights-requires
set_rights-requires c =
    ap (λ (o : Option Rights). is_some o) (rights_past (memory_in c.args.self.now) (memory_in c.loop-k.self) c.args.first c.loop-k.k c.args.rights c.loop-k.invariant.memory)
    ∙ c.requires.mapped (c.args.first + c.loop-k.k) (omega arith) (omega arith)

pub loop-k-preserved : goal.loop-k-preserved
loop-k-preserved c =
    let n : ℕ = c.args.first + c.loop-k.k in
    let m = memory_in c.args.self.now in
    let s = memory_in c.loop-k.self in
    let range = c.requires.range in
    let mapped : is_some (s.rights n) ≡ true =
    ap (λ (o : Option Rights). is_some o) (rights_past m s c.args.first c.loop-k.k c.args.rights c.loop-k.invariant.memory)
    ∙ c.requires.mapped n (omega arith) (omega arith) in
    record {
      memory = c.set_rights.ensures ∙ ap (λ (v : Memory). with_rights v n 1 c.args.rights) c.loop-k.invariant.memory ∙ with_rights-last m c.args.first c.loop-k.k c.args.rights;
      count = count_of_rights s (memory_in c.set_rights.new.self) n c.args.rights (omega arith) mapped c.set_rights.ensures ∙ c.loop-k.invariant.count;
    }
