use Rattle.std.proofs.Common.{◌≡◌, ℤ, of_z, refl, subst, to_z, w32}
use Rattle.std.proofs.lemmas.Int.{to_z-of_z}
use Rattle.rv_isa.specs.declared.instruction.Instr.TheVariants.{Branch}
use Rattle.rv_exec.specs.Effects.{branched, value}
use Rattle.rv_exec.specs.Operations.{add_offset, is_taken}
use Rattle.rv_exec.specs.Registers.{with_pc}
use Rattle.rv_exec.proofs.PlainSteps.{branched_either, stays_by}
use Rattle.rv_exec.proofs.instruction.plain_branch.Goals as goal

pub returns-clause-stays : goal.returns-clause-stays
returns-clause-stays g c = λ stops.
    let cpu = c.args.cpu.now in
    let old = with_pc (g.P.Counter.at c.args.pc.now) cpu in
    let taken = is_taken c.args.test (value cpu c.args.left) (value cpu c.args.right) in
    let new = with_pc (g.P.Counter.at c.branch-pc.new.pc) cpu in
    let offset : to_z w32 (of_z w32 c.args.offset) ≡ c.args.offset = to_z-of_z w32 c.args.offset c.ranges.offset in
    let target = add_offset (g.P.Counter.at c.args.pc.now) c.args.offset in
    stays_by (Branch c.args.test c.args.left c.args.right c.args.offset) old
    new (branched taken target old) c.branch-pc.result (λ m tid held. refl) (branched_either taken target old)
    (subst (λ (o : ℤ). (c.branch-pc.result, new) ≡ branched taken (add_offset (g.P.Counter.at c.args.pc.now) o) old) offset c.branch-pc.ensures)
    (c.went.ensures.no stops)
