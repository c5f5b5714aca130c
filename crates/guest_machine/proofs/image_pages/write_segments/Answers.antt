use Rattle.std.proofs.Common.{◌∙◌, ◌/◌, ap, take}
use Rattle.std.specs.Option.{is_some}
use Rattle.guest_memory.specs.Memory.{Memory}
use Rattle.guest_machine.specs.Private.Setup.{pages_of}
use Rattle.guest_machine.proofs.ImagePages.{segment_mapped, written_rights}
use Rattle.guest_machine.proofs.image_pages.write_segments.Goals as goal

pub first_contents-requires : goal.first_contents-requires
first_contents-requires c q low high =
    let item = c.segment.view_is ∙ c.segment-item.is in
    let rights = ap (λ (m : Memory). m.rights) c.loop-segment.invariant ∙ written_rights (take c.loop-segment.segment-index c.args.segments.now) (pages_of c.args.segments.now) in
    ap (λ r. is_some (r (q / 4096))) rights ∙ segment_mapped c.args.segments.now c.loop-segment.segment-index c.segment-item.result _ c.as_slice.result.now q c.requires.placed c.loop-segment-test.true item c.as_slice.ensures.value low high
