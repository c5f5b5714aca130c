use Rattle.std.proofs.Common.{rules, ◌≡◌, ◌<◌, ◌+◌, ◌*◌, ◌/◌, IfSome, ap, refl, subst, arith}
use Rattle.std.proofs.lemmas.Int.{to_z-of_z}
use Rattle.guest_memory.specs.Code.{IsInstructionAt, known_of}
use Rattle.guest_memory.specs.Guest.{memory_of}
use Rattle.guest_memory.specs.declared.decoded.Decoded.{Decoded}
use Rattle.rv_isa.specs.declared.instruction.Instr.TheVariants.{Jal, Jalr}
use Rattle.rv_exec.specs.Effects.{value}
use Rattle.rv_exec.specs.Operations.{add_offset}
use Rattle.rv_exec.specs.Registers.{with_pc}
use Rattle.guest_machine.proofs.JumpSteps.{jal_jumps, jalr_jumps}
use Rattle.guest_machine.proofs.rows.run_decoded.Goals as goal

pub run_jump-requires-clause-known : goal.run_jump-requires-clause-known
run_jump-requires-clause-known g c =
    let at : c.add_offset-target.result ≡ add_offset c.args.pc.now c.in-Jal.offset = search (rules, to_z-of_z) in (
      Jal c.in-Jal.rd c.in-Jal.offset,
      subst (λ (d : Decoded). IfSome (known_of d) (IsInstructionAt (memory_of c.args.memory.now) c.args.pc.now)) c.in-Jal.is c.requires.known,
      jal_jumps (with_pc c.args.pc.now c.args.cpu.now) c.in-Jal.rd c.add_offset-target.result c.in-Jal.offset c.kind-jump.result
          at c.kind-jump.ensures,
    )

pub run_jump-requires-in-Jalr-clause-known : goal.run_jump-requires-in-Jalr-clause-known
run_jump-requires-in-Jalr-clause-known g c =
    let at : c.add_offset.result ≡ add_offset (value c.args.cpu.now c.in-Jalr.base) c.in-Jalr.offset = search (rules, to_z-of_z) in (
      Jalr c.in-Jalr.rd c.in-Jalr.base c.in-Jalr.offset,
      subst (λ (d : Decoded). IfSome (known_of d) (IsInstructionAt (memory_of c.args.memory.now) c.args.pc.now)) c.in-Jalr.is c.requires.known,
      jalr_jumps (with_pc c.args.pc.now c.args.cpu.now) c.in-Jalr.rd c.in-Jalr.base (c.add_offset.result / 2 * 2) c.in-Jalr.offset c.kind-jump-in-Jalr.result
          (ap (λ n. n / 2 * 2) at) c.kind-jump-in-Jalr.ensures,
    )

pub returns-in-Sb : goal.returns-in-Sb
returns-in-Sb g c = record {
  runs = λ held first old most run. run;
  next = search (rules, to_z-of_z);
  grows = omega arith;
  further = λ went. absurd {A = c.args.row.now.told + c.args.row.now.plain < c.args.row.now.told + c.args.row.now.plain} (cc);
  whole = refl;
  same = refl;
}

pub returns-in-Sh : goal.returns-in-Sh
returns-in-Sh g c = record {
  runs = λ held first old most run. run;
  next = search (rules, to_z-of_z);
  grows = omega arith;
  further = λ went. absurd {A = c.args.row.now.told + c.args.row.now.plain < c.args.row.now.told + c.args.row.now.plain} (cc);
  whole = refl;
  same = refl;
}

pub returns-in-Sw : goal.returns-in-Sw
returns-in-Sw g c = record {
  runs = λ held first old most run. run;
  next = search (rules, to_z-of_z);
  grows = omega arith;
  further = λ went. absurd {A = c.args.row.now.told + c.args.row.now.plain < c.args.row.now.told + c.args.row.now.plain} (cc);
  whole = refl;
  same = refl;
}
