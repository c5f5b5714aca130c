-- The segments of a file in memory.
use Rattle.std.specs.Prelude.{ℕ, ◌+◌, ◌-◌, ◌*◌, ◌/◌, ◌%◌, Bool, not, ◌&&◌, ◌==◌, nat_le, List, map, filter, take, drop}
use Rattle.std.specs.List.{find}
use Rattle.std.specs.Option.{option_map_or}
use Rattle.guest_words.specs.declared.rights.Rights.{Rights}
use Rattle.elf_image.specs.declared.headers.ProgramHeader.{ProgramHeader}
use Rattle.elf_image.specs.Headers.{file_header, program_headers}
use Rattle.elf_image.specs.Image.{Segment}

-- PT_LOAD
abbrev pub is_load : ProgramHeader → Bool
is_load h = h.p_type == 1

-- the headers of load segments
unfoldable pub load_headers : List ℕ → List ProgramHeader
load_headers file = filter is_load (program_headers file)

-- whether the segment takes memory
abbrev pub is_occupied : ProgramHeader → Bool
is_occupied h = not (h.p_memsz == 0)

-- those of load segments that take memory
unfoldable pub occupied_headers : List ℕ → List ProgramHeader
occupied_headers file = filter is_occupied (load_headers file)

-- PF_X, PF_W and PF_R are the lowest three bits of p_flags
abbrev pub rights_of : ℕ → Rights
rights_of flags = record { read = flags / 4 % 2 == 1; write = flags / 2 % 2 == 1; exec = flags % 2 == 1 }

-- the segment of a header
abbrev pub segment_of : List ℕ → ProgramHeader → Segment
segment_of file h = record {
  place = h.p_vaddr;
  size = h.p_memsz;
  rights = rights_of h.p_flags;
  bytes = take h.p_filesz (drop h.p_offset file);
}

-- the load segments that take memory, in the order of their headers
abbrev pub segments_of : List ℕ → List Segment
segments_of file = map (segment_of file) (occupied_headers file)

-- whether the file part of a segment holds all program headers
abbrev pub holds_headers : List ℕ → ProgramHeader → Bool
holds_headers file h =
    let header = file_header file in
    nat_le h.p_offset header.e_phoff && nat_le (header.e_phoff + 32 * header.e_phnum) (h.p_offset + h.p_filesz)

-- where the first segment whose file part holds all program headers has them in memory, or 0
abbrev pub header_place : List ℕ → ℕ
header_place file = option_map_or (λ h. h.p_vaddr + ((file_header file).e_phoff - h.p_offset)) (find (holds_headers file) (occupied_headers file)) 0
