use Rattle.std.proofs.Common.{ℕ, List, ap, take, ◌∙◌}
use Rattle.std.specs.List.{position}
use Rattle.guest_memory.specs.Guest.{memory_of}
use Rattle.guest_kernel.specs.Inputs.{is_named}
use Rattle.guest_calls.proofs.PathEnds.{take_copied}
use Rattle.guest_calls.proofs.paths.input_named.Goals as goal

pub returns : goal.returns
returns c =
    c.input_index.ensures
    ∙ ap (λ (name : List ℕ). position (is_named name) c.args.state.now.inputs)
    (ap (take c.args.size) c.copy_to.ensures ∙ take_copied (memory_of c.args.memory.now) c.args.path c.args.size _)
