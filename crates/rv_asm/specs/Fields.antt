-- The headers and tables of an ELF file for 32 bits as bytes, by the names of the ELF gABI.
use Rattle.std.specs.Prelude.{ℕ, List, [], ◌∷◌}
use Rattle.std.specs.List.{flat_map}
use Rattle.std.specs.Int.{to_le_bytes, w16, w32}
use Rattle.rv_asm.specs.declared.fields.Field.{Field}
use Rattle.rv_asm.specs.declared.fields.Field.TheVariants.{Byte, Half, Word}
use Rattle.rv_asm.specs.declared.headers.FileHeader.{FileHeader}
use Rattle.rv_asm.specs.declared.headers.ProgramHeader.{ProgramHeader}
use Rattle.rv_asm.specs.declared.headers.SectionHeader.{SectionHeader}
use Rattle.rv_asm.specs.declared.headers.SymbolEntry.{SymbolEntry}

-- a field's bytes, the lowest first
abbrev pub field_bytes : Field → List ℕ
field_bytes (Byte n) = n ∷ []
field_bytes (Half n) = to_le_bytes w16 n
field_bytes (Word n) = to_le_bytes w32 n

-- the fields one after another
abbrev pub bytes_of : List Field → List ℕ
bytes_of fields = flat_map field_bytes fields

-- Elf32_Ehdr behind e_ident
abbrev pub file_fields : FileHeader → List Field
file_fields h =
    Half h.e_type ∷ Half h.e_machine ∷ Word h.e_version ∷ Word h.e_entry ∷ Word h.e_phoff
    ∷ Word h.e_shoff ∷ Word h.e_flags ∷ Half h.e_ehsize ∷ Half h.e_phentsize ∷ Half h.e_phnum
    ∷ Half h.e_shentsize ∷ Half h.e_shnum ∷ Half h.e_shstrndx ∷ []

-- Elf32_Phdr
abbrev pub program_fields : ProgramHeader → List Field
program_fields h =
    Word h.p_type ∷ Word h.p_offset ∷ Word h.p_vaddr ∷ Word h.p_paddr
    ∷ Word h.p_filesz ∷ Word h.p_memsz ∷ Word h.p_flags ∷ Word h.p_align ∷ []

-- Elf32_Shdr
abbrev pub section_fields : SectionHeader → List Field
section_fields h =
    Word h.sh_name ∷ Word h.sh_type ∷ Word h.sh_flags ∷ Word h.sh_addr ∷ Word h.sh_offset
    ∷ Word h.sh_size ∷ Word h.sh_link ∷ Word h.sh_info ∷ Word h.sh_addralign ∷ Word h.sh_entsize ∷ []

-- Elf32_Sym
abbrev pub symbol_fields : SymbolEntry → List Field
symbol_fields s =
    Word s.st_name ∷ Word s.st_value ∷ Word s.st_size ∷ Byte s.st_info ∷ Byte s.st_other ∷ Half s.st_shndx ∷ []
