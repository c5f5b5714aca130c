-- New stamps row by row and page by page.
use Rattle.std.specs.Prelude.{ℕ, ◌+◌, ◌*◌, List, map}
use Rattle.std.specs.List.{range_with_len}
use Rattle.stamp_lanes.specs.Plain.{renewals, renewed}
use Rattle.shadow_pages.specs.Pages.{Page, stamp_at}
use Rattle.stamp_renumber.specs.Classes.{class, new_write}

-- the new stamps of a row of access stamps, beside the row of their words' write stamps
abbrev pub new_accesses : List ℕ → List ℕ → List ℕ → List ℕ
new_accesses starts own write = map renewed (renewals own (map (class starts) own) write (map (class starts) write))

-- the write stamps of the words of a page
abbrev pub writes_of : List Page → ℕ → List ℕ
writes_of pages number = map (λ i. stamp_at pages (1024 * number + i)) (range_with_len 0 1024)

-- a page of access stamps with its new stamps
abbrev pub renewed_accesses : List ℕ → List Page → Page → Page
renewed_accesses starts writes p = record { number = p.number; stamps = new_accesses starts p.stamps (writes_of writes p.number) }

-- a page of write stamps with its new stamps
abbrev pub renewed_writes : List ℕ → Page → Page
renewed_writes starts p = record { number = p.number; stamps = map (new_write starts) p.stamps }
