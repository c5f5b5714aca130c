-- The calls on files in parts are lawful.
use Rattle.std.proofs.Common.{◌≡◌, ℕ, zero, suc, ◌≤◌, ◌+◌, ◌*◌, true, false, List, [], ◌∷◌, ◌++◌, length, length-append, take, drop, arith, refl, ap, sym, ◌∙◌}
use Rattle.std.specs.Prelude.{not, nat_lt}
use Rattle.std.proofs.lemmas.Bool.{and_parts, not-false}
use Rattle.std.proofs.lemmas.Bool.Decides.{nat_tests}
use Rattle.std.proofs.lemmas.List.{length-take, take-append-drop}
use Rattle.std.proofs.lemmas.List.Sums.{sum_by-cons}
use Rattle.guest_memory.specs.Memory.{Memory}
use Rattle.rv_exec.specs.Accesses.{can_read, can_write}
use Rattle.trace_model.specs.WellFormed.{weight}
use Rattle.trace_model.proofs.Bounds.{weight-append}
use Rattle.guest_kernel.specs.declared.answer.Answer.TheVariants.{Back}
use Rattle.guest_kernel.specs.declared.parts.IoVec.{IoVec}
use Rattle.guest_kernel.specs.Descriptors.{advanced}
use Rattle.guest_kernel.specs.Kernel.{descriptor}
use Rattle.guest_calls.specs.Lawful.{AreCopies, IsLawful, words_copied}
use Rattle.guest_kernel.specs.Copies.{fill_event, read_event}
use Rattle.guest_calls.specs.Results.{Syscall, Guest, arg, filled, number, reads, returns, ◌▷◌}
use Rattle.guest_kernel.specs.Parts.{all_in_reach, total}
use Rattle.guest_calls.specs.Vectors.{filled_parts, parts, parts_at, read_events, readv, readv_bytes, readv_effect, readv_parts, readv_tests, writev, writev_count, writev_effect, writev_parts, writev_tests}
use Rattle.guest_calls.proofs.FileCalls.{advanced_able, advanced_steady, min_few}
use Rattle.guest_kernel.proofs.Room.{fill_few, read_few}
use Rattle.guest_calls.proofs.Lawful.{AreFailed, AreFair, IsKept, calm_lawful, carried_fair, copies_append, fill_copies, fill_weight, fill_words, filled_kept, kept, lawful_carries, lawful_unless, read_copies, read_weight, read_words, readv_carries, words-append, writev_carries}
use Rattle.guest_calls.proofs.PartLists.{length_carried, total_carried}
use Rattle.guest_kernel.proofs.Reach.{readable_end, writable_end}

-- ---- parts that are filled
filled_few : (ps : List IoVec) (bytes : List ℕ) (g : Guest) →
    length (filled_parts ps bytes g).events ≤ length g.events + length ps
filled_few [] bytes g = omega arith
filled_few (p ∷ ps) bytes g =
    let rest = filled_few ps (drop p.size bytes) (filled p.at (take p.size bytes) g) in
    let both = length-append g.events (fill_event p.at (length (take p.size bytes))) in
    omega (arith, rest, both, fill_few p.at (length (take p.size bytes)))

filled_weight : (ps : List IoVec) (bytes : List ℕ) (g : Guest) →
    weight (filled_parts ps bytes g).events ≤ weight g.events + length ps
filled_weight [] bytes g = omega arith
filled_weight (p ∷ ps) bytes g =
    let rest = filled_weight ps (drop p.size bytes) (filled p.at (take p.size bytes) g) in
    let both = weight-append g.events (fill_event p.at (length (take p.size bytes))) in
    let one = fill_weight p.at (length (take p.size bytes)) in
    omega (arith, rest, both, one)

cut : (n : ℕ) (xs : List ℕ) → length xs ≡ length (take n xs) + length (drop n xs)
cut n xs = ap (λ (ys : List ℕ). length ys) (sym (take-append-drop n xs)) ∙ length-append (take n xs) (drop n xs)

-- the bytes go to the parts once
filled_words : (ps : List IoVec) (bytes : List ℕ) (g : Guest) →
    4 * words_copied (filled_parts ps bytes g).events + 8 * length g.events ≤
    4 * words_copied g.events + length bytes + 8 * length (filled_parts ps bytes g).events
filled_words [] bytes g = omega arith
filled_words (p ∷ ps) bytes g =
    let n = length (take p.size bytes) in
    let rest = filled_words ps (drop p.size bytes) (filled p.at (take p.size bytes) g) in
    let words = words-append g.events (fill_event p.at n) in
    let events = length-append g.events (fill_event p.at n) in
    omega (arith, rest, words, events, fill_words p.at n, cut p.size bytes)

filled_copies : (m : Memory) (tid : ℕ) (ps : List IoVec) (bytes : List ℕ) (g : Guest) →
    all_in_reach (can_write m) ps ≡ true → AreCopies tid g.events → AreCopies tid (filled_parts ps bytes g).events
filled_copies m tid [] bytes g reach before = before
filled_copies m tid (p ∷ ps) bytes g reach before =
    let both = and_parts (can_write m p.at p.size) (all_in_reach (can_write m) ps) reach in
    let front = take p.size bytes in
    let short = length-take p.size bytes in
    filled_copies m tid ps (drop p.size bytes) (filled p.at front g) both.1
    (copies_append tid g.events (fill_event p.at (length front)) before
    (fill_copies tid p.at (length front) (λ some.
    let end = writable_end m p.at p.size both.0 (omega (arith, short, some)) in
    omega (arith, short, end))))

parts_kept : (c : Syscall) (ps : List IoVec) (bytes : List ℕ) (g : Guest) → IsKept c g → IsKept c (filled_parts ps bytes g)
parts_kept c [] bytes g before = before
parts_kept c (p ∷ ps) bytes g before =
    parts_kept c ps (drop p.size bytes) (filled p.at (take p.size bytes) g) (filled_kept c g p.at (take p.size bytes) before)

-- ---- parts that are read
parts_weight : (tid : ℕ) (ps : List IoVec) → 4 * weight (read_events tid ps) ≤ total ps + 12 * length ps
parts_weight tid [] = omega arith
parts_weight tid (p ∷ ps) =
    let sum = sum_by-cons (λ (q : IoVec). q.size) p ps in
    let both = weight-append (read_event tid p.at p.size) (read_events tid ps) in
    let one = read_weight tid p.at p.size in
    let rest = parts_weight tid ps in
    omega (arith, sum, both, one, rest)

parts_few : (tid : ℕ) (ps : List IoVec) → length (read_events tid ps) ≤ length ps
parts_few tid [] = omega arith
parts_few tid (p ∷ ps) =
    let both = length-append (read_event tid p.at p.size) (read_events tid ps) in
    omega (arith, both, read_few tid p.at p.size, parts_few tid ps)

parts_words : (tid : ℕ) (ps : List IoVec) → 4 * words_copied (read_events tid ps) ≤ total ps + 8 * length (read_events tid ps)
parts_words tid [] = omega arith
parts_words tid (p ∷ ps) =
    let sum = sum_by-cons (λ (q : IoVec). q.size) p ps in
    let words = words-append (read_event tid p.at p.size) (read_events tid ps) in
    let events = length-append (read_event tid p.at p.size) (read_events tid ps) in
    omega (arith, sum, words, events, read_words tid p.at p.size, parts_words tid ps)

parts_copies : (m : Memory) (tid : ℕ) (ps : List IoVec) → all_in_reach (can_read m) ps ≡ true →
    AreCopies tid (read_events tid ps)
parts_copies m tid [] reach = tt
parts_copies m tid (p ∷ ps) reach =
    let both = and_parts (can_read m p.at p.size) (all_in_reach (can_read m) ps) reach in
    copies_append tid (read_event tid p.at p.size) (read_events tid ps)
    (read_copies tid p.at p.size (readable_end m p.at p.size both.0)) (parts_copies m tid ps both.1)

-- ---- the table of the parts, which is read
table_copies : (c : Syscall) → not (can_read c.memory (arg c 1) (8 * arg c 2)) ≡ false →
    AreCopies c.tid (read_event c.tid (arg c 1) (8 * arg c 2))
table_copies c reach =
    read_copies c.tid (arg c 1) (8 * arg c 2)
    (readable_end c.memory (arg c 1) (8 * arg c 2) (not-false (can_read c.memory (arg c 1) (8 * arg c 2)) reach))

length_parts : (m : Memory) (at n : ℕ) → length (parts_at m at n) ≡ n
length_parts m at zero = refl
length_parts m at (suc n) = ap (λ (k : ℕ). suc k) (length_parts m (at + 8) n)

few_of : (n : ℕ) → nat_lt 1024 n ≡ false → n ≤ 1024
few_of n h = grind (arith, nat_tests, h)

readv_fair : (tid at n : ℕ) (ps : List IoVec) (bytes : List ℕ) (g : Guest) → n ≤ 1024 → length ps ≡ n →
    g.events ≡ read_event tid at (8 * n) →
    AreCopies tid (filled_parts ps bytes g).events → AreFair tid (length bytes) (filled_parts ps bytes g).events
readv_fair tid at n ps bytes g few long is copies =
    let count : length g.events ≡ length (read_event tid at (8 * n)) = ap length is in
    let weighs : weight g.events ≡ weight (read_event tid at (8 * n)) = ap weight is in
    let touched : words_copied g.events ≡ words_copied (read_event tid at (8 * n)) = ap words_copied is in
    record {
      few = omega (arith, filled_few ps bytes g, read_few tid at (8 * n), count, few, long);
      light = omega (arith, filled_weight ps bytes g, read_weight tid at (8 * n), weighs, few, long);
      copies = copies;
      words = omega (arith, filled_words ps bytes g, read_words tid at (8 * n), count, touched, few);
    }

writev_fair : (tid at n k : ℕ) (ps : List IoVec) → n ≤ 1024 → length ps ≡ n → total ps ≤ k → k ≤ 65536 →
    AreCopies tid (read_event tid at (8 * n)) → AreCopies tid (read_events tid ps) →
    AreFair tid k (read_event tid at (8 * n) ++ read_events tid ps)
writev_fair tid at n k ps few long sum most front back = record {
  few =
      let both = length-append (read_event tid at (8 * n)) (read_events tid ps) in
      omega (arith, both, read_few tid at (8 * n), parts_few tid ps, few, long);
  light =
      let both = weight-append (read_event tid at (8 * n)) (read_events tid ps) in
      omega (arith, both, parts_weight tid ps, read_weight tid at (8 * n), few, long, sum, most);
  copies = copies_append tid (read_event tid at (8 * n)) (read_events tid ps) front back;
  words =
      let both = words-append (read_event tid at (8 * n)) (read_events tid ps) in
      let events = length-append (read_event tid at (8 * n)) (read_events tid ps) in
      omega (arith, both, events, parts_words tid ps, read_words tid at (8 * n), few, sum);
}

-- ---- the calls
pub readv_is_lawful : (c : Syscall) → number c ≡ 65 → IsLawful c (readv c)
readv_is_lawful c is =
    lawful_unless c (readv_tests c) (λ _. readv_effect c)
    (λ (all : AreFailed (readv_tests c)).
    let file = descriptor c.kernel (arg c 0) in
    let n = length (readv_bytes c) in
    let read = (returns c n ▷ reads c.tid (arg c 1) (8 * arg c 2)).guest in
    lawful_carries c (Back n) (advanced file (arg c 0) n c.kernel) (filled_parts (readv_parts c) (readv_bytes c) read) tt
    (advanced_steady file (arg c 0) n c.kernel) (λ goes. advanced_able file (arg c 0) n c.kernel c.tid)
    (parts_kept c (readv_parts c) (readv_bytes c) read (kept c _))
    (carried_fair c n (filled_parts (readv_parts c) (readv_bytes c) read).events (readv_carries c is all)
    (readv_fair c.tid (arg c 1) (arg c 2) (readv_parts c) (readv_bytes c) read
    (few_of (arg c 2) all.1.0) (length_carried n (parts c) ∙ length_parts c.memory (arg c 1) (arg c 2)) refl
    (filled_copies c.memory c.tid (readv_parts c) (readv_bytes c) read
    (not-false (all_in_reach (can_write c.memory) (readv_parts c)) all.1.1.1.1.0) (table_copies c all.1.1.0)))))

pub writev_is_lawful : (c : Syscall) → number c ≡ 66 → IsLawful c (writev c)
writev_is_lawful c is =
    lawful_unless c (writev_tests c) (λ _. writev_effect c)
    (λ (all : AreFailed (writev_tests c)).
    calm_lawful c (writev_effect c) (record {
      stays = tt;
      threads = refl;
      last = refl;
      able = λ can goes. can;
      held = λ q some. some;
      free = λ free. free;
      fair = carried_fair c (writev_count c) (writev_effect c).guest.events (writev_carries c is all)
          (writev_fair c.tid (arg c 1) (arg c 2) (writev_count c) (writev_parts c) (few_of (arg c 2) all.1.0)
          (length_carried (writev_count c) (parts c) ∙ length_parts c.memory (arg c 1) (arg c 2))
          (total_carried (writev_count c) (parts c)) (min_few (total (parts c))) (table_copies c all.1.1.0)
          (parts_copies c.memory c.tid (writev_parts c) (not-false (all_in_reach (can_read c.memory) (writev_parts c)) all.1.1.1.1.0)));
      silent = λ no_write no_writev. absurd (no_writev is);
    }))
