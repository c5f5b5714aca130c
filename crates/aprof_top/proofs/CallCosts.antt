-- What the kernel's calls cost: each event is a copy, and a copy costs by its words.
use Rattle.std.proofs.Common.{◌≡◌, ℕ, suc, ◌≤◌, ◌+◌, ◌*◌, ◌/◌, List, [], ◌∷◌, length, map, arith, sym, subst}
use Rattle.std.proofs.lemmas.List.{length-map}
use Rattle.std.proofs.lemmas.Nat.{mul-le}
use Rattle.guest_calls.specs.Lawful.{AreCopies, IsCopy, bytes_carried, count_copied, words_copied}
use Rattle.guest_calls.specs.Laws.{EverySyscallIsLawful}
use Rattle.guest_calls.specs.Table.{syscall}
use Rattle.guest_words.specs.declared.limits.TheConstants.{SYSCALL_EVENTS}
use Rattle.shadow_core.specs.Costs.{most_untimed, old_words}
use Rattle.shadow_core.specs.State.{State}
use Rattle.shadow_pages.specs.Pages.{stamp_at}
use Rattle.shadow_stack.specs.Costs.{is_old}
use Rattle.shadow_stack.specs.Frames.{starts_of}
use Rattle.stamp_renumber.specs.Threads.{frames_of, pages_of}
use Rattle.trace_model.proofs.Bounds.{count_range-le}
use Rattle.trace_model.specs.declared.event_kinds.Event.{Event}
use Rattle.trace_model.specs.declared.event_kinds.Event.TheVariants.{Read, Fill}
use Rattle.aprof_top.specs.CallCosts.{CostsByBytes, KernelCallsCostByTheirBytes, untimed}

-- ---- one copy
read_cost : (old count digits : ℕ) → old ≤ count → 8 + 32 * count + old * digits ≤ 8 + (32 + digits) * count
read_cost old count digits few = let most = mul-le old digits count digits few (omega arith) in omega (arith, most)

fill_cost : (count digits : ℕ) → 8 + 32 * count ≤ 8 + (32 + digits) * count
fill_cost count digits = omega arith

copy_cost : (tid digits : ℕ) (e : Event) (s : State) → IsCopy tid e → most_untimed digits e s ≤ 8 + (32 + digits) * count_copied e
copy_cost tid digits (Read t first count) s copy =
    let test = λ (w : ℕ). is_old (starts_of (frames_of s.live.threads t)) (stamp_at (pages_of s.live.threads t) w) in
    read_cost (old_words s.live t first count) count digits (count_range-le test first count)
copy_cost tid digits (Fill first count) s copy = fill_cost count digits
copy_cost tid digits _ s copy = absurd copy

-- ---- all copies
together : (a b n d w k : ℕ) → a ≤ 8 * n + d * w → b ≤ 8 + d * k → a + b ≤ 8 * suc n + d * (w + k)
together a b n d w k rest one = omega (arith, rest, one)

copies_cost : (tid digits : ℕ) (met : List (Event × State)) → AreCopies tid (map (λ m. m.0) met) →
    untimed digits met ≤ 8 * length met + (32 + digits) * words_copied (map (λ m. m.0) met)
copies_cost tid digits [] copies = omega arith
copies_cost tid digits (m ∷ met) copies =
    together (untimed digits met) (most_untimed digits m.0 m.1) (length met) (32 + digits)
    (words_copied (map (λ m. m.0) met)) (count_copied m.0)
    (copies_cost tid digits met copies.1) (copy_cost tid digits m.0 m.1 copies.0)

-- ---- a call
words_within : (words bytes n : ℕ) → 4 * words ≤ bytes + 8192 + 8 * n → words ≤ (bytes + 8192) / 4 + 2 * n
words_within words bytes n h = omega (arith, h)

costs_within : (steps n d words most : ℕ) → steps ≤ 8 * n + d * words → words ≤ most → steps ≤ 8 * n + d * most
costs_within steps n d words most all within = let more = mul-le d words d most (omega arith) within in omega (arith, all, more)

-- what is asked of the events of a call
abbrev AreFew : ℕ → ℕ → List Event → Type 0
AreFew tid bytes events =
    (length events ≤ SYSCALL_EVENTS) × (4 * words_copied events ≤ bytes + 8192 + 8 * length events) × AreCopies tid events

few_cost : (tid digits bytes : ℕ) (met : List (Event × State)) → AreFew tid bytes (map (λ m. m.0) met) → CostsByBytes digits bytes met
few_cost tid digits bytes met fair =
    let n : length (map (λ m. m.0) met) ≡ length met = length-map met (λ m. m.0) in
    let few = fair.0 in
    let short = fair.1 in
    let words = words_copied (map (λ m. m.0) met) in
    record {
      few = omega (arith, few, n);
      steps = costs_within (untimed digits met) (length met) (32 + digits) words ((bytes + 8192) / 4 + 2 * length met)
          (copies_cost tid digits met fair.2) (words_within words bytes (length met) (omega (arith, short, n)));
    }

pub kernel_calls_cost : EverySyscallIsLawful → KernelCallsCostByTheirBytes
kernel_calls_cost each c digits met is =
    let bytes = bytes_carried c (syscall c).answer in
    let lawful = each c in
    few_cost c.tid digits bytes met
    (subst (λ (events : List Event). AreFew c.tid bytes events) (sym is) (lawful.few, lawful.words, lawful.copies))
