use Rattle.std.proofs.Common.{◌≡◌, sym, subst, arith, OnOk, OnErr, Result, Ok, Err}
use Rattle.guest_memory.specs.Private.HeldCode.{HoldsCode}
use Rattle.guest_memory.specs.State.{memory_in}
use Rattle.guest_memory.specs.Memory.{Memory, mapped_pages, with_bytes}
use Rattle.guest_memory.specs.declared.refusal.MemError.{MemError}
use Rattle.guest_memory.proofs.memory.GuestMemory.store_word.Goals as goal

-- what holds of the memory with the word and of the memory before holds of the memory afterwards
holds_either : {T : Type 0} (P : Memory → Type 0) (r : Result T MemError) (before with_word after : Memory) → OnOk r (after ≡ with_word) → OnErr r (after ≡ before) →
    P with_word → P before → P after
holds_either P (Ok x) before with_word after ok err stored same = subst P (sym ok) stored
holds_either P (Err refusal) before with_word after ok err stored same = subst P (sym err) same

pub invariant_of-self : goal.invariant_of-self
invariant_of-self c =
    let self = c.args.self.now in
    let m = memory_in self.directory in
    let at = c.from.result in
    let bytes = c.to_le_bytes-bytes.result in
    let after = memory_in c.store_within.new.self in
    let free : HoldsCode self.code (with_bytes m c.args.at bytes) = c.has_code.ensures c.if-has_code.false m bytes (omega (arith, c.requires)) self.coherent in
    let holds : HoldsCode self.code (with_bytes m at bytes) = subst (λ a. HoldsCode self.code (with_bytes m a bytes)) (sym c.from.ensures) free in
    record {
      counted = holds_either (λ n. self.mapped ≡ mapped_pages n) c.store_within.result m (with_bytes m at bytes) after c.store_within.ensures.ok c.store_within.ensures.err self.counted self.counted;
      few = self.few;
      coherent = holds_either (HoldsCode self.code) c.store_within.result m (with_bytes m at bytes) after c.store_within.ensures.ok c.store_within.ensures.err holds self.coherent;
    }
