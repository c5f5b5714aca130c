use Rattle.std.proofs.Common.{◌≡◌, ◌∙◌, ◌<◌, ◌==◌, true, ℕ, [], ap, sym, subst, length, map, ◌/◌, ◌^◌, arith, get_or, set, replicate, None}
use Rattle.std.proofs.lemmas.Bool.Decides.{nat_tests}
use Rattle.std.proofs.lemmas.List.{get_or-set_other}
use Rattle.shadow_pages.specs.Directory.{HasTable, IsDirectory, entry, table_of}
use Rattle.shadow_pages.proofs.Directories.{table_seen, with_table, table_added, table_read, directory_with_table, entry_grown, entry_with_table, has_new_table, table_grown, table_with_table}
use Rattle.shadow_pages.proofs.directory.Directory.reserve.Goals as goal
use Rattle.shadow_pages.proofs.directory.Directory.reserve.Goals.{After-drop-index_mut}

is_zero : (n : ℕ) → (n == 0) ≡ true → n ≡ 0
is_zero n h = grind (arith, nat_tests)

directory_before : (c : After-drop-index_mut) → IsDirectory c.reach.new.self
directory_before c = subst IsDirectory c.self.view_is c.self.invariant

inside : (c : After-drop-index_mut) → c.args.number / 2 ^ 10 < length c.reach.new.self
inside c = omega (arith, c.in_ok-reach.ensures.reached)

was_empty : (c : After-drop-index_mut) → length (get_or c.reach.new.self (c.args.number / 2 ^ 10) []) ≡ 0
was_empty c =
    ap length (table_read c.reach.new.self c.self.inside.tables.items c.index.result.now (c.args.number / 2 ^ 10) c.self.view_is (inside c) c.index.ensures)
    ∙ (sym c.index.result.now.ok.0 ∙ is_zero c.index.result.now.len (sym c.is_empty.ensures ∙ c.if-is_empty.true))

after : (c : After-drop-index_mut) → map table_seen (set c.self.inside.tables.items (c.args.number / 2 ^ 10) c.in_ok-table.table) ≡ with_table c.reach.new.self (c.args.number / 2 ^ 10)
after c = table_added c.reach.new.self c.self.inside.tables.items c.in_ok-table.table (c.args.number / 2 ^ 10) c.self.view_is c.in_ok-table.ensures

pub invariant_of-self : goal.invariant_of-self
invariant_of-self c = subst IsDirectory (sym (after c)) (directory_with_table c.reach.new.self (c.args.number / 2 ^ 10) (inside c) (directory_before c))

pub returns-in_ok-table-clause-entries : goal.returns-in_ok-table-clause-entries
returns-in_ok-table-clause-entries c = λ n.
    ap (λ d. entry d n) (after c) ∙ entry_with_table c.reach.new.self (c.args.number / 2 ^ 10) n (inside c) (was_empty c)
    ∙ entry_grown c.args.self.now c.reach.new.self n c.reach.ensures.tables

pub returns-in_ok-table-clause-placed : goal.returns-in_ok-table-clause-placed
returns-in_ok-table-clause-placed c = subst (λ (d : _). HasTable d c.args.number) (sym (after c)) (has_new_table c.reach.new.self c.args.number (inside c))

pub returns-in_ok-table-clause-others : goal.returns-in_ok-table-clause-others
returns-in_ok-table-clause-others c = λ n has. subst (λ (d : _). HasTable d n) (sym (after c)) (table_with_table c.reach.new.self (c.args.number / 2 ^ 10) n (inside c) (was_empty c) (table_grown c.args.self.now c.reach.new.self n c.reach.ensures.tables c.reach.ensures.longer has))

pub returns-in_ok-table-clause-only : goal.returns-in_ok-table-clause-only
returns-in_ok-table-clause-only c = λ n ne. ap (λ d. table_of d n) (after c) ∙ get_or-set_other c.reach.new.self (c.args.number / 2 ^ 10) (n / 2 ^ 10) (replicate 1024 None) [] ne ∙ c.reach.ensures.tables (n / 2 ^ 10)
