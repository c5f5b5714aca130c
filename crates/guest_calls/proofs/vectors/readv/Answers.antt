use Rattle.std.proofs.Common.{rules, ◌≡◌, ℕ, List, length, take, ap, subst, ◌∙◌}
use Rattle.guest_kernel.specs.declared.answer.Answer.TheVariants.{Back}
use Rattle.guest_kernel.specs.declared.descriptor.Descriptor.{Descriptor}
use Rattle.guest_kernel.specs.declared.parts.IoVec.{IoVec}
use Rattle.guest_kernel.specs.Descriptors.{bytes_left}
use Rattle.guest_kernel.specs.Kernel.{descriptor}
use Rattle.guest_calls.specs.Outcome.{asked, guest_of, Does}
use Rattle.guest_calls.specs.Results.{Syscall, SyscallResult, arg}
use Rattle.guest_kernel.specs.Parts.{total}
use Rattle.guest_calls.specs.Vectors.{carried, filled_parts, parts, readv}
use Rattle.guest_calls.proofs.Carrying.{readv_does, readv_of, readv_refused}
use Rattle.guest_calls.proofs.vectors.readv.Goals as goal

pub returns-clause-does : goal.returns-clause-does
returns-clause-does c =
    let made : Syscall = asked c.args.caller.now c.args.state.now c.args.memory.now c.args.held.now in
    let file : Descriptor = c.descriptor-file.result in
    let bytes : List ℕ = c.first_bytes-bytes.result.now in
    let into : List IoVec = c.truncated-into.result.items in
    let is_file : file ≡ descriptor c.args.state.now (arg made 0) = search rules in
    let is_bytes : bytes ≡ take (total (parts made)) (bytes_left c.args.state.now (descriptor c.args.state.now (arg made 0))) = search rules in
    let is_into : into ≡ carried (length bytes) (parts made) = search rules in
    let here : Descriptor = descriptor c.args.state.now (arg made 0) in
    let is : readv_of made file bytes into ≡ readv made =
    ap (λ (d : Descriptor). readv_of made d bytes into) is_file
    ∙ ap (λ (ps : List IoVec). readv_of made here bytes ps) is_into
    ∙ ap (λ (bs : List ℕ). readv_of made here bs (carried (length bs) (parts made))) is_bytes
    in
    let filled : guest_of c.fill_parts.new.memory c.fill_parts.new.held c.fill_parts.new.events ≡ filled_parts into bytes (guest_of c.args.memory.now c.args.held.now c.note_read.new.events) = search rules in
    subst (λ (r : SyscallResult). Does r (Back (length bytes)) c.advance.new.self c.fill_parts.new.memory c.fill_parts.new.held c.args.events.now c.fill_parts.new.events) is
    (readv_does c.args.caller.now c.args.state.now c.advance.new.self c.args.memory.now c.fill_parts.new.memory c.args.held.now c.fill_parts.new.held c.args.events.now c.note_read.new.events c.fill_parts.new.events file bytes into
    (search rules) (search rules) (search rules) (search rules) filled c.fill_parts.ensures.room (search rules))

pub returns-in-Err-Refused-clause-does : goal.returns-in-Err-Refused-clause-does
returns-in-Err-Refused-clause-does c =
    readv_refused c.args.caller.now c.args.state.now c.args.memory.now c.args.held.now c.args.events.now _ (search rules) (search rules)
