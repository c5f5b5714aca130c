use Rattle.std.proofs.Common.{◌≡◌, All, vec_len}
use Rattle.guest_memory.specs.Pages.{zeros}
use Rattle.guest_memory.proofs.page_ranges.zero_pages.Given as goal

abbrev pub invariant-loop : goal.invariant-loop
invariant-loop l = record { count : vec_len l.pages ≡ l.counter; zeros : All (λ p. p.items ≡ zeros) l.pages.items }
