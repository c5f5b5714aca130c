use Rattle.std.proofs.Common.{◌≡◌, ◌∙◌, ℕ, List, ap, ap₂, sym, subst, length, map, ◌/◌, ◌%◌, ◌^◌, set, arith}
use Rattle.std.specs.Vec.{with_item, with_items}
use Rattle.std.proofs.lemmas.List.{with_items_is}
use Rattle.guest_words.specs.declared.rights.Rights.{Rights}
use Rattle.guest_memory.specs.declared.directory.Page.{Page}
use Rattle.guest_memory.specs.Pages.{IsDirectory, page_of, with_page, overwritten}
use Rattle.guest_memory.specs.State.{memory_in}
use Rattle.guest_memory.specs.Pages.{IsPlaced}
use Rattle.guest_memory.proofs.Directories.{IsRead, table_seen, page_read, page_written, directory_kept, page_seen}
use Rattle.guest_memory.proofs.WrittenBytes.{IsWritable, writable_placed, written_is_page, written_page, written_memory, read_full}
use Rattle.guest_memory.proofs.directory.Directory.write.Goals as goal

writable : (c : goal.After-self-1) → IsWritable c.args.self.now c.args.at c.args.bytes.now
writable c = record { shape = subst IsDirectory c.self.view_is c.self.invariant; mapped = c.requires.mapped; fits = c.requires.within }

place : (c : goal.After-self-1) → IsPlaced c.args.self.now (c.args.at / 4096)
place c = writable_placed c.args.self.now c.args.at c.args.bytes.now (writable c)

read : (c : goal.After-self-1) → IsRead c.args.self.now c.self.inside.tables.items (c.args.at / 4096) c.index_mut-table.result.now c.index_mut-page.result.now
read c = record { seen = c.self.view_is; in_tables = c.index_mut-table.ensures.value; in_table = c.index_mut-page.ensures.value }

abbrev written : (c : goal.After-self-1) → Page
written c = record { rights = c.index_mut-page.result.now.rights; bytes = with_items c.index_mut-page.result.now.bytes c.overwrite.new.old }

page_is : (c : goal.After-self-1) → page_of c.args.self.now (c.args.at / 4096) ≡ page_seen c.index_mut-page.result.now
page_is c = page_read c.args.self.now c.self.inside.tables.items (c.args.at / 4096) c.index_mut-table.result.now c.index_mut-page.result.now (read c) (place c)

bytes_are : (c : goal.After-self-1) → (with_items c.index_mut-page.result.now.bytes c.overwrite.new.old).items ≡ overwritten (page_of c.args.self.now (c.args.at / 4096)).1 (c.args.at % 4096) c.args.bytes.now
bytes_are c =
    let long : length c.overwrite.new.old ≡ c.index_mut-page.result.now.bytes.len = omega (arith, c.overwrite.auto.old, c.deref_mut.ensures.len) in
    with_items_is c.index_mut-page.result.now.bytes c.overwrite.new.old long
    ∙ (c.overwrite.ensures ∙ ap (λ (old : List ℕ). overwritten old (c.args.at % 4096) c.args.bytes.now) (c.deref_mut.ensures.value ∙ ap (λ (p : Rights × List ℕ). p.1) (sym (page_is c))))

after : (c : goal.After-self-1) → map table_seen (set c.self.inside.tables.items (c.args.at / 4096 / 2 ^ 10) (with_item c.index_mut-table.result.now (c.args.at / 4096 % 1024) (written c))) ≡ with_page c.args.self.now (c.args.at / 4096) (written_page c.args.self.now c.args.at c.args.bytes.now)
after c =
    page_written c.args.self.now c.self.inside.tables.items (c.args.at / 4096) c.index_mut-table.result.now c.index_mut-page.result.now (written c) (read c) (place c)
    ∙ ap₂ (λ (r : Rights) (ws : List ℕ). with_page c.args.self.now (c.args.at / 4096) (r, ws)) (ap (λ (p : Rights × List ℕ). p.0) (sym (page_is c))) (bytes_are c)

pub overwrite-requires : goal.overwrite-requires
overwrite-requires c =
    let h : IsWritable c.args.self.now c.args.at c.args.bytes.now = record { shape = subst IsDirectory c.self.view_is c.self.invariant; mapped = c.requires.mapped; fits = c.requires.within } in
    let r : IsRead c.args.self.now c.self.inside.tables.items (c.args.at / 4096) c.index_mut-table.result.now c.index_mut-page.result.now = record { seen = c.self.view_is; in_tables = c.index_mut-table.ensures.value; in_table = c.index_mut-page.ensures.value } in
    let full = read_full c.args.self.now c.args.at c.args.bytes.now c.self.inside.tables.items c.index_mut-table.result.now c.index_mut-page.result.now h r in
    omega (arith, full, ap length c.deref_mut.ensures.value, c.requires.within)

pub invariant_of-self : goal.invariant_of-self
invariant_of-self c = subst IsDirectory (sym (after c)) (directory_kept c.args.self.now (c.args.at / 4096) (written_page c.args.self.now c.args.at c.args.bytes.now) (place c) (written_is_page c.args.self.now c.args.at c.args.bytes.now (writable c)) (writable c).shape)

pub returns : goal.returns
returns c = ap memory_in (after c) ∙ written_memory c.args.self.now c.args.at c.args.bytes.now (writable c)
