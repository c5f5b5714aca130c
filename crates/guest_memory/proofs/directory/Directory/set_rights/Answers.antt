use Rattle.std.proofs.Common.{◌≡◌, ◌∙◌, ℕ, List, ap, sym, subst, map, ◌/◌, ◌%◌, ◌^◌, set}
use Rattle.std.specs.Vec.{with_item}
use Rattle.guest_words.specs.declared.rights.Rights.{Rights}
use Rattle.guest_memory.specs.Pages.{IsDirectory, IsPlaced, page_of, with_page}
use Rattle.guest_memory.specs.State.{memory_in}
use Rattle.guest_memory.proofs.Accesses.{some_bytes}
use Rattle.guest_memory.proofs.Directories.{IsRead, table_seen, page_read, page_written, directory_kept, is_page, placed}
use Rattle.guest_memory.proofs.PageChanges.{rights_memory}
use Rattle.guest_memory.proofs.directory.Directory.set_rights.Goals as goal

place : (c : goal.After-self-1) → IsPlaced c.args.self.now c.args.number
place c = placed c.args.self.now c.args.number (some_bytes (page_of c.args.self.now c.args.number) c.requires)

read : (c : goal.After-self-1) → IsRead c.args.self.now c.self.inside.tables.items c.args.number c.index_mut-table.result.now c.index_mut-page.result.now
read c = record { seen = c.self.view_is; in_tables = c.index_mut-table.ensures.value; in_table = c.index_mut-page.ensures.value }

after : (c : goal.After-self-1) → map table_seen (set c.self.inside.tables.items (c.args.number / 2 ^ 10) (with_item c.index_mut-table.result.now (c.args.number % 1024) (record { rights = c.args.rights; bytes = c.index_mut-page.result.now.bytes }))) ≡ with_page c.args.self.now c.args.number (c.args.rights, (page_of c.args.self.now c.args.number).1)
after c =
    page_written c.args.self.now c.self.inside.tables.items c.args.number c.index_mut-table.result.now c.index_mut-page.result.now (record { rights = c.args.rights; bytes = c.index_mut-page.result.now.bytes }) (read c) (place c)
    ∙ ap (λ (p : Rights × List ℕ). with_page c.args.self.now c.args.number (c.args.rights, p.1)) (sym (page_read c.args.self.now c.self.inside.tables.items c.args.number c.index_mut-table.result.now c.index_mut-page.result.now (read c) (place c)))

directory_before : (c : goal.After-self-1) → IsDirectory c.args.self.now
directory_before c = subst IsDirectory c.self.view_is c.self.invariant

pub invariant_of-self : goal.invariant_of-self
invariant_of-self c = subst IsDirectory (sym (after c)) (directory_kept c.args.self.now c.args.number (c.args.rights, (page_of c.args.self.now c.args.number).1) (place c) (is_page c.args.self.now c.args.number (directory_before c)) (directory_before c))

pub returns : goal.returns
returns c = ap memory_in (after c) ∙ rights_memory c.args.self.now c.args.number c.args.rights c.requires
