use Rattle.std.proofs.Common.{◌≡◌, ◌∙◌, ◌<◌, sym, ap, arith, ℕ, Ok, true, ◌+◌, ◌≤◌, ◌%◌, ◌/◌, length, drop, List}
use Rattle.guest_memory.specs.Memory.{byte_count, allows}
use Rattle.byteorder.specs.Endian.{little_number}
use Rattle.guest_memory.specs.Pages.{page_of}
use Rattle.guest_memory.specs.declared.size.Size.{Size}
use Rattle.guest_memory.specs.declared.size.Size.TheVariants.{One, Two, Four}
use Rattle.guest_memory.proofs.Accesses.{loads_within}
use Rattle.guest_memory.proofs.directory.Directory.number_within.Goals as goal

some_bytes : (size : Size) → 0 < byte_count size
some_bytes One = omega arith
some_bytes Two = omega arith
some_bytes Four = omega arith

pub returns-then-is_allowed : goal.returns-then-is_allowed
returns-then-is_allowed c =
    let bytes : c.page-page.result.1.now ≡ (page_of c.args.self.now (c.args.at / 4096)).1 = c.page-page.ensures.bytes in
    let rights : c.page-page.result.0 ≡ (page_of c.args.self.now (c.args.at / 4096)).0 = c.page-page.ensures.rights in
    let long : length c.page-page.result.1.now ≡ length (page_of c.args.self.now (c.args.at / 4096)).1 = ap length bytes in
    let fits : c.args.at % 4096 + byte_count c.args.size ≤ length (page_of c.args.self.now (c.args.at / 4096)).1 = omega (arith, c.if-start-bytes.true, c.bytes.ensures) in
    let allowed : allows c.args.permission (page_of c.args.self.now (c.args.at / 4096)).0 ≡ true = ap (allows c.args.permission) (sym rights) ∙ (sym c.is_allowed.ensures ∙ c.if-is_allowed.true) in
    let number : c.number_from.result ≡ little_number (byte_count c.args.size) (drop (c.args.at % 4096) (page_of c.args.self.now (c.args.at / 4096)).1) = c.number_from.ensures ∙ ap (λ (b : List ℕ). little_number (byte_count c.args.size) (drop (c.args.at % 4096) b)) bytes in
    loads_within c.args.self.now c.args.permission c.args.at (byte_count c.args.size) (omega arith) (some_bytes c.args.size) fits c.page-page.ensures.size allowed ∙ sym (ap Ok number)
