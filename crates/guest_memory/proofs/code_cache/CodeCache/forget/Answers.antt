use Rattle.std.proofs.Common.{◌≤◌, ◌∙◌, ◌+◌, ◌-◌, ap, arith, drop, length, length-take, subst, take}
use Rattle.std.proofs.lemmas.List.{take_all}
use Rattle.guest_memory.specs.Memory.{Memory, with_bytes}
use Rattle.guest_memory.specs.Private.HeldCode.{HoldsCode}
use Rattle.guest_memory.specs.Private.CodePages.{known_in}
use Rattle.guest_memory.proofs.KeptCode.{holds_unwritten}
use Rattle.guest_memory.proofs.WrittenBytes.{written_more}
use Rattle.guest_memory.proofs.code_cache.CodeCache.forget.Goals as goal

pub pages-init : goal.pages-init
pages-init c = record {
  within = omega arith;
  holds = λ m bytes long holds. holds_unwritten (known_in c.args.self.now.places.items c.args.self.now.pages.items) m c.args.at holds;
}

pub pages-preserved : goal.pages-preserved
pages-preserved c =
    let done = c.pages.done in
    let here = c.min-here.result in
    record {
      within = omega arith;
      holds = λ m bytes long holds.
          let part = take ((done + here) - done) (drop done bytes) in
          let before = with_bytes m c.args.at (take done bytes) in
          let few : length part ≤ here = omega (arith, length-take ((done + here) - done) (drop done bytes)) in
          subst (λ (after : Memory). HoldsCode c.forget_within.new.self after)
          (ap (λ n. with_bytes before (n + done) part) c.from.ensures ∙ written_more m c.args.at bytes done here (omega (arith, long, c.pages-test.true)))
          (c.forget_within.ensures before part few (c.pages.invariant.holds m bytes long holds));
    }

pub returns : goal.returns
returns c = λ m bytes long holds.
    subst (λ bs. HoldsCode c.pages.self (with_bytes m c.args.at bs)) (take_all c.pages.done bytes (omega (arith, long)))
    (c.pages.invariant.holds m bytes long holds)
