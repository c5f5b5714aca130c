-- What every executable keeps, from the tests that its file passed.
use Rattle.std.proofs.Common.{◌≡◌, ℕ, ◌+◌, ◌%◌, ◌^◌, ◌<◌, ◌≤◌, true, false, not, ◌||◌, eqb, ltb, List, length, filter, get_or, drop, None, arith}
use Rattle.std.specs.List.{All}
use Rattle.std.proofs.lemmas.Bool.{and_parts, eqb-false, eqb-true, ltb-false, not-false, not-true, or_parts}
use Rattle.std.proofs.lemmas.List.{length-take}
use Rattle.std.proofs.lemmas.List.Elements.{All-filter, All-map, filter_passes}
use Rattle.elf_image.specs.declared.headers.ProgramHeader.{ProgramHeader}
use Rattle.elf_image.specs.Headers.{file_header}
use Rattle.elf_image.specs.Image.{IsPlaced, IsSoundImage, is_code, share_byte}
use Rattle.elf_image.specs.Private.Layout.{IsLoadable}
use Rattle.elf_image.specs.Segments.{is_occupied, load_headers, occupied_headers, segment_of, segments_of}
use Rattle.elf_image.specs.Tests.{fails_entry, fails_overlap, fails_pages, fails_segment_file, fails_segment_place, fails_segment_size, first_of, layout_tests, segment_tests}
use Rattle.elf_image.proofs.FirstTests.{each_passes}
use Rattle.elf_image.proofs.Pairs.{each_fails, none_is_related}

module _ (file : List ℕ) (passed : first_of (segment_tests file) ≡ None) where
  in_file : fails_segment_file file ≡ false
  in_file = search (each_passes (segment_tests file) passed)

  in_memory : fails_segment_size file ≡ false
  in_memory = search (each_passes (segment_tests file) passed)

  in_place : fails_segment_place file ≡ false
  in_place = search (each_passes (segment_tests file) passed)

  pub loadable_from : All (IsLoadable (length file)) (occupied_headers file)
  unfolding occupied_headers
  loadable_from k d inside =
      let h = get_or (filter is_occupied (load_headers file)) k d in
      let occupied : not (eqb h.p_memsz 0) ≡ true = filter_passes is_occupied (load_headers file) k d inside in
      let placed : (ltb h.p_vaddr 0x1000 || ltb 0x40000000 (h.p_vaddr + h.p_memsz)) ≡ false =
      each_fails (λ (g : ProgramHeader). ltb g.p_vaddr 0x1000 || ltb 0x40000000 (g.p_vaddr + g.p_memsz)) (occupied_headers file) in_place k d inside in
      let sized : ltb h.p_memsz h.p_filesz ≡ false =
      All-filter is_occupied (λ (g : ProgramHeader). ltb g.p_memsz g.p_filesz ≡ false) (load_headers file)
      (each_fails (λ (g : ProgramHeader). ltb g.p_memsz g.p_filesz) (load_headers file) in_memory) k d inside in
      let held : ltb (length file) (h.p_offset + h.p_filesz) ≡ false =
      All-filter is_occupied (λ (g : ProgramHeader). ltb (length file) (g.p_offset + g.p_filesz) ≡ false) (load_headers file)
      (each_fails (λ (g : ProgramHeader). ltb (length file) (g.p_offset + g.p_filesz)) (load_headers file) in_file) k d inside in
      let some : h.p_memsz ≡ 0 → ⊥ = eqb-false _ _ (not-true _ occupied) in
      let bounds = or_parts _ _ placed in
      record {
        some = omega (arith, some);
        low = ltb-false _ _ bounds.0;
        high = ltb-false _ _ bounds.1;
        within = ltb-false _ _ sized;
        in_file = ltb-false _ _ held;
      }

  placed_from : (h : ProgramHeader) → IsLoadable (length file) h → IsPlaced (segment_of file h)
  placed_from h l =
      let within : h.p_filesz ≤ h.p_memsz = l.within in
      record { some = l.some; low = l.low; high = l.high; within = omega (arith, within, length-take h.p_filesz (drop h.p_offset file)) }

  module _ (laid : first_of (layout_tests file) ≡ None) where
    apart : fails_overlap file ≡ false
    apart = search (each_passes (layout_tests file) laid)

    enters : fails_entry file ≡ false
    enters = search (each_passes (layout_tests file) laid)

    few : fails_pages file ≡ false
    few = search (each_passes (layout_tests file) laid)

    pub sound_from : (place count : ℕ) (names : List (ℕ × List ℕ)) → place < 2 ^ 32 → count < 65535
        → IsSoundImage (record { entry = (file_header file).e_entry; header_place = place; header_count = count; segments = segments_of file; names = names })
    sound_from place count names low short =
        let entry = and_parts (eqb ((file_header file).e_entry % 4) 0) (is_code (segments_of file) (file_header file).e_entry) (not-false _ enters) in
        record {
          placed = All-map IsPlaced (segment_of file) (occupied_headers file) (λ k d inside. placed_from _ (loadable_from k d inside));
          apart = none_is_related share_byte (segments_of file) apart;
          pages = ltb-false _ _ few;
          aligned = eqb-true _ _ entry.0;
          runs = entry.1;
          header_place = low;
          header_count = short;
        }
