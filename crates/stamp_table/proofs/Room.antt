-- What a table allows, what fits, and how great sums and counts are.
use Rattle.std.proofs.Common.{◌≡◌, ℕ, ◌+◌, ◌*◌, ◌≤◌, Bool, true, false, not, eqb, leb, ◌&&◌, ◌||◌, List, [], ◌∷◌, length, drop, map, get_or, refl, sym, ap, subst, ◌∙◌, arith, pos}
use Rattle.std.specs.Prelude.{◌↔◌, All, ◌≤ℤ◌}
use Rattle.std.specs.List.{count_by, range_with_len}
use Rattle.std.proofs.lemmas.Bool.{le-leb}
use Rattle.std.proofs.lemmas.Int.{ints}
use Rattle.std.proofs.lemmas.List.Elements.{All-nil, All-cons, All-drop, All-head, All-map, All-tail}
use Rattle.trace_model.specs.declared.event_kinds.Event.{Event}
use Rattle.trace_model.specs.declared.event_kinds.Event.TheVariants.{Step, Read, Write, Fill, Call, Ret, Start, End}
use Rattle.trace_model.specs.declared.activations.Activation.{Activation}
use Rattle.trace_model.specs.Activations.{open_calls}
use Rattle.trace_model.specs.Sizes.{since, before, accessed, bare, last_touch}
use Rattle.trace_model.specs.Causes.{Plain, OtherThread, Kernel, counts_by, is_by, part}
use Rattle.trace_model.specs.WellFormed.{weight, MayFollow}
use Rattle.trace_model.specs.Depth.{count_begun, pending}
use Rattle.trace_model.proofs.Bounds.{weight-append, pairs-le-weight, cost-le-weight, count_range-le}
use Rattle.shadow_stack.specs.declared.sums.Sums.{Sums}
use Rattle.shadow_stack.specs.Frames.{Frame, plus}
use Rattle.stamp_table.specs.Frames.{no_sums, frames_after_reads, frames_after_pops}
use Rattle.call_tracker.specs.ThreadCalls.{Counts}
use Rattle.stamp_table.specs.Table.{Table, places_read}
use Rattle.stamp_table.specs.Renewal.{all_starts}
use Rattle.stamp_table.specs.Past.{sums_of}
use Rattle.stamp_table.specs.Stands.{totals, Agrees}
use Rattle.stamp_table.specs.Allows.{Allows, IsWithin, AllowsWhatMayFollow, AreWithin, CountsStayWithin, FitsByFrames, PopsStayWithin, SumsStayWithin}
use Rattle.stamp_table.proofs.Frames.{totals-pops, with_gains}
use Rattle.stamp_table.proofs.Inside.{gained, gains, inside_before}
use Rattle.stamp_table.proofs.Kept.{totals_after}
use Rattle.stamp_table.proofs.Counted.{room}

may : (e : Event) (table : Table) (past : List Event) → Agrees table past → Allows e table ↔ MayFollow e past
may (Step t) table past s = ((λ h. sym (s.live t) ∙ h), (λ h. s.live t ∙ h))
may (Read t first count) table past s =
    ((λ h. ((sym (s.live t) ∙ h.0.0, sym s.last ∙ h.0.1), h.1)), (λ h. ((s.live t ∙ h.0.0, s.last ∙ h.0.1), h.1)))
may (Write t first count) table past s =
    ((λ h. ((sym (s.live t) ∙ h.0.0, sym s.last ∙ h.0.1), h.1)), (λ h. ((s.live t ∙ h.0.0, s.last ∙ h.0.1), h.1)))
may (Fill first count) table past s = ((λ h. h), (λ h. h))
may (Call t entry back) table past s = ((λ h. (sym (s.live t) ∙ h.0, sym s.last ∙ h.1)), (λ h. (s.live t ∙ h.0, s.last ∙ h.1)))
may (Ret t target) table past s = ((λ h. (sym (s.live t) ∙ h.0, sym s.last ∙ h.1)), (λ h. (s.live t ∙ h.0, s.last ∙ h.1)))
may (Start t entry) table past s = ((λ h. omega (arith, h, s.greatest)), (λ h. omega (arith, h, s.greatest)))
may (End t) table past s = ((λ h. sym (s.live t) ∙ h), (λ h. s.live t ∙ h))

pub allows_what_may_follow : AllowsWhatMayFollow
allows_what_may_follow e table past s =
    let each = may e table past s in
    ((λ h. (each.0 h.0, omega (arith, h.1, s.weight), s.formed)), (λ h. (each.1 h.0, omega (arith, h.1, s.weight))))

-- ---- what fits
and_true : (b : Bool) → (b && true) ≡ b
and_true true = refl
and_true false = refl

pub fits_by_frames : FitsByFrames
fits_by_frames most e table past s = ap (λ b. leb (3 * (pending (e ∷ past) + 1)) most && b) s.within ∙ and_true _ ∙ by e
  where
    fewer : (n : ℕ) → n ≤ pending past → leb (3 * (n + 1)) most ≡ true
    fewer n h = le-leb _ most (omega (arith, h, room most past s.within))

    more : (n : ℕ) → n ≡ pending past + 1 → leb (3 * (n + 1)) most ≡ leb (3 * (length (all_starts table.threads) + 2)) most
    more n is = ap (λ k. leb k most) (omega (arith, is, s.counted.frames))

    by : (e : Event) → leb (3 * (pending (e ∷ past) + 1)) most
        ≡ (eqb (count_begun e) 0 || leb (3 * (length (all_starts table.threads) + 2)) most)
    by (Start t entry) = more _ (omega arith)
    by (Call t entry back) = more _ (omega arith)
    by _ = fewer _ (omega arith)

-- ---- how great sums are
-- both are numbers, at most so great
abbrev AreNumbers : ℕ → Sums → Type 0
AreNumbers most s = ((pos 0 ≤ℤ s.plain) × (s.plain ≤ℤ pos most)) × ((pos 0 ≤ℤ s.bare) × (s.bare ≤ℤ pos most))

abbrev SumsFit : ℕ → Frame → Type 0
SumsFit most f = IsWithin most f.sums.plain × IsWithin most f.sums.bare

-- where the totals are numbers, each sum is the difference of two
totals_fit : (most : ℕ) (above : Sums) (frames : List Frame) → AreNumbers most above → All (AreNumbers most) (totals above frames) → AreWithin most frames
totals_fit most above [] low all = All-nil (SumsFit most)
totals_fit most above (f ∷ frames) low all =
    let here = All-head (AreNumbers most) (plus above f.sums) (totals (plus above f.sums) frames) all in
    All-cons (SumsFit most) f frames
    ((omega (arith, ints, low.0, here.0), omega (arith, ints, low.0, here.0)), (omega (arith, ints, low.1, here.1), omega (arith, ints, low.1, here.1)))
    (totals_fit most (plus above f.sums) frames here (All-tail (AreNumbers most) (plus above f.sums) (totals (plus above f.sums) frames) all))

none_fit : (most : ℕ) → AreNumbers most no_sums
none_fit most = ((omega (arith, ints), omega (arith, ints)), (omega (arith, ints), omega (arith, ints)))

weight-since : (past : List Event) (at : ℕ) → weight (since past at) ≤ weight past
weight-since past at = omega (arith, weight-append (since past at) (before past (at + 1)), ap weight (inside_before past at))

-- the totals after a read are numbers of pairs
numbers_after : (past : List Event) (t first count : ℕ) (a : Activation) →
    AreNumbers (weight past + count) (with_gains (gained past t a) (range_with_len first count) (sums_of past t a))
numbers_after past t first count a =
    let words = range_with_len first count in
    let inside = since past a.at in
    let outside = before past (a.at + 1) in
    let p : ℕ → Bool = λ l. counts_by Plain inside outside t l in
    let q : ℕ → Bool = λ l. not (accessed inside t l) in
    let plain : part Plain inside outside t + count_by p words ≤ weight past + count =
    omega (arith, pairs-le-weight (λ earlier l. counts_by Plain earlier outside t l) inside t, weight-since past a.at, count_range-le p first count) in
    let first_reads : bare inside t + count_by q words ≤ weight past + count =
    omega (arith, pairs-le-weight (λ earlier l. not (accessed earlier t l)) inside t, weight-since past a.at, count_range-le q first count) in
    subst (AreNumbers (weight past + count)) (sym (gains p q words (part Plain inside outside t) (bare inside t)))
    ((omega (arith, ints), omega (arith, ints, plain)), (omega (arith, ints), omega (arith, ints, first_reads)))

pub pops_stay_within : PopsStayWithin
pops_stay_within table past t n thread s found =
    let calls = open_calls past t in
    let h = s.threads t thread found in
    let numbers : All (AreNumbers (weight past)) (map (sums_of past t) calls) =
    All-map (AreNumbers (weight past)) (sums_of past t) calls
    (λ k d in'. subst (λ most. AreNumbers most (sums_of past t (get_or calls k d))) (omega arith) (numbers_after past t 0 0 (get_or calls k d))) in
    totals_fit (weight past) no_sums (frames_after_pops n thread.frames) (none_fit (weight past))
    (subst (All (AreNumbers (weight past))) (sym (totals-pops n thread.frames ∙ ap (drop n) h.sums)) (All-drop (AreNumbers (weight past)) n _ numbers))

pub sums_stay_within : SumsStayWithin
sums_stay_within table past t first count thread s found =
    let words = range_with_len first count in
    let most = weight past + count in
    let calls = open_calls past t in
    totals_fit most no_sums (frames_after_reads (places_read table thread words) thread.frames)
    (none_fit most)
    (subst (All (AreNumbers most)) (sym (totals_after table past t thread words (s.threads t thread found)))
    (All-map (AreNumbers most) (λ a. with_gains (gained past t a) words (sums_of past t a)) calls (λ k d in'. numbers_after past t first count (get_or calls k d))))

pub counts_stay_within : CountsStayWithin
counts_stay_within table past t thread s found =
    let counts = (s.threads t thread found).counts in (
      omega (arith, ap (λ (c : Counts). c.steps) counts, cost-le-weight past t),
      omega (arith, ap (λ (c : Counts). c.thread) counts, pairs-le-weight (λ earlier l. is_by OtherThread (last_touch earlier t l)) past t),
      omega (arith, ap (λ (c : Counts). c.kernel) counts, pairs-le-weight (λ earlier l. is_by Kernel (last_touch earlier t l)) past t),
    )
