use Rattle.std.proofs.Common.{◌≡◌, ◌+◌, ◌-◌, ◌*◌, ◌≤◌, List, Option, Some, None, get_or, ap, sym, ◌∙◌, arith}
use Rattle.std.specs.List.{find}
use Rattle.std.specs.Option.{option_map_or}
use Rattle.std.proofs.lemmas.Bool.{and_from, le-leb}
use Rattle.elf_image.specs.declared.headers.FileHeader.{FileHeader}
use Rattle.elf_image.specs.declared.headers.ProgramHeader.{ProgramHeader}
use Rattle.elf_image.specs.Headers.{file_header}
use Rattle.elf_image.specs.Segments.{holds_headers, occupied_headers}
use Rattle.elf_image.proofs.Layouts.{found_headers, no_found_headers, no_header}
use Rattle.elf_image.proofs.segments.header_place.Goals as goal

pub returns-then-end-h-clause-value : goal.returns-then-end-h-clause-value
returns-then-end-h-clause-value c =
    let file = c.args.file.now in
    let hs = c.args.headers.now in
    let i = c.loop-h.h-index in
    let h = get_or hs i no_header in
    let offset : c.args.header.now.e_phoff ≡ (file_header file).e_phoff = ap (λ (f : FileHeader). f.e_phoff) c.requires.header in
    let count : c.args.header.now.e_phnum ≡ (file_header file).e_phnum = ap (λ (f : FileHeader). f.e_phnum) c.requires.header in
    let begins : h.p_offset ≤ c.args.header.now.e_phoff = c.if-h-header.true in
    let ends : c.args.header.now.e_phoff + 32 * c.args.header.now.e_phnum ≤ h.p_offset + h.p_filesz = c.if-end-h.true in
    let low : h.p_offset ≤ (file_header file).e_phoff = omega (arith, offset, begins) in
    let high : (file_header file).e_phoff + 32 * (file_header file).e_phnum ≤ h.p_offset + h.p_filesz = omega (arith, offset, count, ends) in
    let found : find (holds_headers file) hs ≡ Some h = found_headers file hs i (omega arith) c.loop-h.invariant (and_from _ _ (le-leb _ _ low) (le-leb _ _ high)) in
    let whole : find (holds_headers file) (occupied_headers file) ≡ Some h = ap (λ (gs : List ProgramHeader). find (holds_headers file) gs) (sym c.requires.headers) ∙ found in
    let place = λ (g : ProgramHeader). g.p_vaddr + ((file_header file).e_phoff - g.p_offset) in
    ap (λ n. h.p_vaddr + (n - h.p_offset)) offset ∙ ap (λ (o : Option ProgramHeader). option_map_or place o 0) (sym whole)

pub returns-clause-value : goal.returns-clause-value
returns-clause-value c =
    let file = c.args.file.now in
    let hs = c.args.headers.now in
    let none : find (holds_headers file) hs ≡ None = no_found_headers file hs (λ k inside. c.loop-h.invariant k (omega arith)) in
    let whole : find (holds_headers file) (occupied_headers file) ≡ None = ap (λ (gs : List ProgramHeader). find (holds_headers file) gs) (sym c.requires.headers) ∙ none in
    let place = λ (g : ProgramHeader). g.p_vaddr + ((file_header file).e_phoff - g.p_offset) in
    ap (λ (o : Option ProgramHeader). option_map_or place o 0) (sym whole)
