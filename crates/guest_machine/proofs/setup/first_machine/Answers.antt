use Rattle.std.proofs.Common.{rules, ◌≡◌, ◌∙◌, [], ◌∷◌, ◌++◌, ap, arith, length, map, string_bytes, subst, sym, false}
use Rattle.std.proofs.lemmas.List.{length-map}
use Rattle.rv_exec.specs.Registers.{Registers}
use Rattle.guest_machine.specs.Start.{first_break, greatest_end, stack_pointer}
use Rattle.guest_kernel.specs.Kernel.{started}
use Rattle.guest_kernel.specs.declared.kernel.Kernel.{Kernel}
use Rattle.guest_kernel.specs.Invariant.{IsState}
use Rattle.guest_machine.specs.Sound.{IsSoundMachine}
use Rattle.guest_machine.specs.Parts.{parts_of}
use Rattle.guest_machine.proofs.Starts.{break_is, only_hart, start_is, start_sound}
use Rattle.guest_machine.proofs.Stacks.{fewer_strings}
use Rattle.guest_machine.proofs.setup.first_machine.Goals as goal

pub stack_pointer-pointer-requires-clause-few : goal.stack_pointer-pointer-requires-clause-few
stack_pointer-pointer-requires-clause-few c =
    let texts = map string_bytes c.args.arguments.now in
    let counted : length texts ≡ length c.args.arguments.now = length-map c.args.arguments.now string_bytes in
    omega (arith, fewer_strings texts, counted, c.requires.limit, c.requires.texts)

pub returns-clause-start : goal.returns-clause-start
returns-clause-start c =
    let texts = map string_bytes c.args.arguments.now in
    let counted : length texts ≡ length c.args.arguments.now = length-map c.args.arguments.now string_bytes in
    let pointer : c.stack_pointer-pointer.result ≡ stack_pointer texts = omega (arith, c.stack_pointer-pointer.ensures, c.requires.texts, counted) in
    let top = c.next_multiple_of-first_break in
    let break : top.result ≡ first_break c.args.image.now.segments = break_is c.args.image.now.segments c.greatest_end.result top.result (c.greatest_end.ensures.value ∙ ap greatest_end c.segments.ensures.same) top.ensures.lower_bound top.ensures.upper_bound top.ensures.multiple in
    let kernel = c.in_ok-kernel.ensures.started in
    start_is c.args.image.now texts c.args.inputs c.args.stdin.items (parts_of (record { harts = c.insert.new.self; kernel = c.in_ok-kernel.kernel; memory = c.in_ok-memory.memory; held = c.new-2.result; entry = c.entry-2.result; called = false }))
    (c.in_ok-insert.ensures.ok ∙ ap (λ hs. hs ++ (1, c.first_cpu.result) ∷ []) (c.in_ok-reserve.ensures.list ∙ c.new-harts.ensures)
    ∙ only_hart (1, c.first_cpu.result) _ _ _ _ (ap (λ (r : Registers). (1, r)) c.first_cpu.ensures) c.entry.ensures pointer)
    (ap (λ (k : Kernel). k.state) c.in_ok-kernel.ensures.started ∙ ap (started c.args.inputs c.args.stdin.items) break)
    c.in_ok-memory.ensures
    c.new-2.ensures

pub invariant_of-result : goal.invariant_of-result
invariant_of-result c =
    let texts = map string_bytes c.args.arguments.now in
    let top = c.next_multiple_of-first_break in
    let break : top.result ≡ first_break c.args.image.now.segments = break_is c.args.image.now.segments c.greatest_end.result top.result (c.greatest_end.ensures.value ∙ ap greatest_end c.segments.ensures.same) top.ensures.lower_bound top.ensures.upper_bound top.ensures.multiple in
    let state = subst IsState (ap (λ (k : Kernel). k.state) c.in_ok-kernel.ensures.started ∙ ap (started c.args.inputs c.args.stdin.items) break) c.in_ok-kernel.ensures.state in
    record {
      spare = search rules;
      sound = subst IsSoundMachine (sym (returns-clause-start c)) (start_sound c.args.image.now texts c.args.inputs c.args.stdin.items c.segments.ensures.sound state);
    }
