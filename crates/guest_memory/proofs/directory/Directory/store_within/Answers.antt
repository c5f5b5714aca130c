use Rattle.std.proofs.Common.{◌≡◌, ◌∙◌, sym, ap, length, Option, None}
use Rattle.guest_memory.specs.declared.refusal.MemError.{MemError}
use Rattle.guest_memory.specs.declared.refusal.Permission.TheVariants.{Write}
use Rattle.guest_memory.specs.Memory.{byte_refusal, unless_refused}
use Rattle.guest_memory.specs.State.{memory_in}
use Rattle.guest_memory.proofs.Accesses.{refusal_within}
use Rattle.guest_memory.proofs.directory.Directory.store_within.Goals as goal

pub returns-in-None-clause-result : goal.returns-in-None-clause-result
returns-in-None-clause-result c =
    let m = memory_in c.args.self.now in
    let free : byte_refusal m Write c.args.at ≡ None = sym c.byte_refusal.ensures.value ∙ c.in-None.is in
    ap (λ (o : Option MemError). unless_refused o tt) (sym (refusal_within m Write c.args.at (length c.args.bytes.now) free c.requires.within))
