use Rattle.std.proofs.Common.{◌≡◌, ℕ, Bool, true, false, ap, sym, ◌∙◌}
use Rattle.std.specs.Prelude.{◌==◌, slice_set, if◌then◌else◌}
use Rattle.std.proofs.lemmas.List.Edits.{map_over_more}
use Rattle.guest_kernel.specs.declared.thread.Thread.{Thread}
use Rattle.guest_kernel.specs.Threads.{with_clear_tid}
use Rattle.guest_kernel.proofs.threads.set_clear_tid.Goals.{then-eq, else-eq}
use Rattle.guest_kernel.proofs.threads.set_clear_tid.Goals as goal

cleared : (tid at : ℕ) (t : Thread) → (t.tid == tid) ≡ true → with_clear_tid tid at t ≡ record t { clear_tid = at }
cleared tid at t h = ap (λ (b : Bool). if b then record t { clear_tid = at } else t) h

kept : (tid at : ℕ) (t : Thread) → (t.tid == tid) ≡ false → with_clear_tid tid at t ≡ t
kept tid at t h = ap (λ (b : Bool). if b then record t { clear_tid = at } else t) h

pub loop-t-preserved : goal.loop-t-preserved
loop-t-preserved c =
    let more =
    ap (λ (t : Thread). slice_set c.loop-t.threads c.loop-t.t-index (with_clear_tid c.args.tid c.args.at t)) (sym c.t-item.is)
    ∙ map_over_more (with_clear_tid c.args.tid c.args.at) c.args.threads.now c.loop-t.threads c.loop-t.t-index c.t-item.result c.loop-t-test.true c.loop-t.invariant c.t-item.is in
    elim c.if-eq.branch [
      | then-eq w ↦ w.threads-is ∙ ap (λ (t : Thread). slice_set c.loop-t.threads c.loop-t.t-index t) (sym (cleared c.args.tid c.args.at _ (sym c.eq.ensures ∙ w.if-eq.true))) ∙ more
      | else-eq w ↦ w.threads-is ∙ ap (λ (t : Thread). slice_set c.loop-t.threads c.loop-t.t-index t) (sym (kept c.args.tid c.args.at _ (sym c.eq.ensures ∙ w.if-eq.false))) ∙ more
    ]
