use Rattle.std.proofs.Common.{◌≡◌, ◌/◌, ◌∙◌, ap, arith, length, map, string_bytes, subst, sym}
use Rattle.std.proofs.lemmas.List.{length-map}
use Rattle.std.specs.List.{All}
use Rattle.std.specs.Option.{is_some}
use Rattle.elf_image.specs.Image.{IsPlaced, page_count}
use Rattle.guest_memory.specs.Guest.{memory_of}
use Rattle.guest_memory.specs.Memory.{Memory, mapped_pages}
use Rattle.guest_machine.proofs.ImagePages.{far_rights, image-counted, image_rights}
use Rattle.guest_machine.proofs.Stacks.{fewer_strings, stack_mapped, words_within}
use Rattle.guest_machine.proofs.start_memory.start_memory.Goals as goal

pub word_bytes-requires-clause-count : goal.word_bytes-requires-clause-count
word_bytes-requires-clause-count c =
    let texts = map string_bytes c.args.arguments.now in
    let counted : length texts ≡ length c.args.arguments.now = length-map c.args.arguments.now string_bytes in
    omega (arith, fewer_strings texts, counted, c.requires.limit)

pub map_stack-requires-clause-free : goal.map_stack-requires-clause-free
map_stack-requires-clause-free c q low high =
    let placed = subst (λ ss. All IsPlaced ss) (sym c.segments.ensures.same) c.segments.ensures.sound.placed in
    ap (λ (m : Memory). m.rights q) c.in_ok-memory.ensures ∙ ap (λ r. r q) (image_rights c.segments.result.now) ∙ far_rights c.segments.result.now q placed (omega (arith, low))

pub map_stack-requires-clause-few : goal.map_stack-requires-clause-few
map_stack-requires-clause-few c =
    let counted : mapped_pages (memory_of c.in_ok-memory.memory) ≡ page_count c.args.image.now.segments =
    ap mapped_pages c.in_ok-memory.ensures ∙ image-counted c.segments.result.now ∙ ap page_count c.segments.ensures.same in
    omega (arith, c.requires.few, counted)

pub first_contents-requires : goal.first_contents-requires
first_contents-requires c q low high =
    let texts = map string_bytes c.args.arguments.now in
    let within = words_within c.args.image.now texts c.requires.limit in
    let whole = ap length (c.as_slice.ensures.value ∙ c.in_ok-words.ensures) in
    let place = c.requires.pointer in
    ap (λ (m : Memory). is_some (m.rights (q / 4096))) c.in_ok-map_stack.ensures
    ∙ stack_mapped (memory_of c.in_ok-memory.memory) q (omega (arith, within.0, low, place)) (omega (arith, within.1, high, place, whole))
