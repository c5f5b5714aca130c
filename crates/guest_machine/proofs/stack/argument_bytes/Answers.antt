use Rattle.std.proofs.Common.{◌≡◌, ◌∙◌, ◌++◌, ap, take, map, string_bytes, arith, length}
use Rattle.std.proofs.Math.Seq.{take-length}
use Rattle.guest_machine.specs.Start.{random_bytes, strings}
use Rattle.guest_machine.proofs.stack.argument_bytes.Goals as goal

pub returns : goal.returns
returns c =
    let last : c.loop-argument.argument-index ≡ length c.args.arguments.now = omega arith in
    let all : take c.loop-argument.argument-index c.args.arguments.now ≡ c.args.arguments.now = rw last (take-length c.args.arguments.now) in
    c.in_ok-extend_from_slice-2.ensures.items ∙ ap (λ s. s ++ random_bytes) (c.loop-argument.invariant ∙ ap (λ a. strings (map string_bytes a)) all)
