use Rattle.std.proofs.Common.{◌≡◌, ◌∙◌, sym, ap, None, Option, true, arith}
use Rattle.std.specs.Option.{is_some}
use Rattle.guest_memory.specs.declared.refusal.MemError.{MemError}
use Rattle.guest_memory.specs.Memory.{byte_refusal}
use Rattle.guest_memory.specs.State.{memory_in}
use Rattle.guest_memory.proofs.Accesses.{refusal_page, refusal_first, none_of}
use Rattle.guest_memory.proofs.directory.Directory.first_refusal.Goals as goal

pub pages-preserved : goal.pages-preserved
pages-preserved c =
    let free : byte_refusal (memory_in c.args.self.now) c.args.permission c.pages.next ≡ None = sym c.byte_refusal-refusal.ensures.value ∙ none_of c.byte_refusal-refusal.result (sym c.if-is_some.ensures) in
    refusal_page (memory_in c.args.self.now) c.args.permission c.pages.next c.min-here.result c.pages.left free (omega arith) (omega arith) ∙ c.pages.invariant

pub returns-then-is_some : goal.returns-then-is_some
returns-then-is_some c =
    let m = memory_in c.args.self.now in
    let refused : is_some (byte_refusal m c.args.permission c.pages.next) ≡ true = ap (λ (o : Option MemError). is_some o) (sym c.byte_refusal-refusal.ensures.value) ∙ (sym c.is_some.ensures ∙ c.if-is_some.true) in
    c.byte_refusal-refusal.ensures.value ∙ sym (refusal_first m c.args.permission c.pages.next c.pages.left refused (omega arith)) ∙ c.pages.invariant
