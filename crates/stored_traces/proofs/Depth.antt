-- What fits, where no activation begins and where one does.
use Rattle.std.proofs.Common.{◌≡◌, ℕ, ◌+◌, ◌*◌, ◌≤◌, Bool, true, false, List, ◌∷◌, refl, arith, leb}
use Rattle.std.specs.Prelude.{◌↔◌, ◌&&◌, is_some, not}
use Rattle.std.proofs.lemmas.Bool.Decides.{nat_tests}
use Rattle.std.proofs.lemmas.Bool.{and_from, le-leb}
use Rattle.trace_model.specs.declared.event_kinds.Event.{Event}
use Rattle.trace_model.specs.declared.event_kinds.Event.TheVariants.{Call, Start}
use Rattle.trace_model.specs.Depth.{count_begun, is_within, pending}
use Rattle.trace_model.proofs.Cut.{within_is_of_each}
use Rattle.stored_traces.specs.Entries.{entry_begun}

none_begun : (e : Event) → is_some (entry_begun e) ≡ false → count_begun e ≡ 0
none_begun (Call tid entry back) none = absurd (cc)
none_begun (Start tid entry) none = absurd (cc)
none_begun _ none = omega arith

pub still_within : (most : ℕ) (e : Event) (past : List Event) → is_some (entry_begun e) ≡ false → is_within most past ≡ true → is_within most (e ∷ past) ≡ true
still_within most e past none is =
    let room : 3 * (pending past + 1) ≤ most = (within_is_of_each past most).0 is 0 in
    let same = none_begun e none in
    and_from (leb (3 * (pending (e ∷ past) + 1)) most) (is_within most past)
    (le-leb (3 * (pending (e ∷ past) + 1)) most (omega (arith, room, same))) is

one_begun : (e : Event) (past : List Event) → is_some (entry_begun e) ≡ true → pending (e ∷ past) ≡ pending past + 1
one_begun (Call tid entry back) past some = omega arith
one_begun (Start tid entry) past some = omega arith
one_begun _ past some = absurd (cc)

-- as many may be open as the limit says
pub begun_within : (most limit : ℕ) (e : Event) (past : List Event) → ((n : ℕ) → (n ≤ limit) ↔ (3 * (n + 1) ≤ most)) → is_some (entry_begun e) ≡ true → is_within most past ≡ true →
    (calls : ℕ) → calls ≡ pending past → is_within most (e ∷ past) ≡ not (leb limit calls)
begun_within most limit e past limited begun fits calls is = rw fits (by (leb limit calls) (leb (3 * (pending (e ∷ past) + 1)) most) refl refl)
  where
    more : pending (e ∷ past) ≡ calls + 1
    more = let one = one_begun e past begun in omega (arith, one, is)

    by : (a b : Bool) → leb limit calls ≡ a → leb (3 * (pending (e ∷ past) + 1)) most ≡ b → (b && true) ≡ not a
    by true true full small = absurd (let within = (limited (calls + 1)).1 (grind (arith, nat_tests, small, more)) in grind (arith, nat_tests, full, within))
    by true false full small = refl
    by false true full small = refl
    by false false full small = absurd (let room = (limited (calls + 1)).0 (grind (arith, nat_tests, full)) in grind (arith, nat_tests, small, room, more))
