-- The laws of the table, by what an event and a tick make of it.
use Rattle.std.proofs.Common.{◌≡◌, ℕ, ◌+◌, ◌≤◌, Bool, true, false, not, cond, ltb, ◌&&◌, List, [], ◌∷◌, ◌++◌, refl, sym, ◌∙◌, arith}
use Rattle.std.proofs.lemmas.Bool.{false≢true, le-leb}
use Rattle.std.proofs.lemmas.List.Elements.{All-nil}
use Rattle.trace_model.specs.declared.event_kinds.Event.{Event}
use Rattle.stamp_table.specs.Table.{Table, empty_table}
use Rattle.stamp_table.specs.Ticks.{table_at, table_of, ticks}
use Rattle.stamp_table.specs.Renewal.{bounded_tick}
use Rattle.stamp_table.specs.Counting.{next_counter}
use Rattle.stamp_table.specs.Stands.{Agrees}
use Rattle.stamp_table.specs.Laws.{IsFresh, IsTick, AgreesOn, EmptyStands, CountsOn, StandsOn, FinishesWhatEnds, FinishesWhatIsDone, RunsAgree}
use Rattle.stamp_table.proofs.Whole.{counter_after, event_agrees, event_finishes}
use Rattle.stamp_table.proofs.Renewed.{bounded_tick_is_tick}
use Rattle.stamp_table.proofs.Counted.{frames_after, renumbered_after, ticked_counter, ticked_frames, ticked_renumbered}

module _ (tick : Table → Table) (is_tick : IsTick tick) where
  -- the table at an event agrees, and is fresh where the event ticks
  agrees_at : (table : Table) (past : List Event) (b : Bool) → Agrees table past → Agrees (cond b (tick table) table) past
  agrees_at table past true s = is_tick.agrees table past s
  agrees_at table past false s = s

  fresh_at : (e : Event) (table : Table) (past : List Event) (b : Bool) → ticks e table.last ≡ b → Agrees table past →
      ticks e (cond b (tick table) table).last ≡ true → IsFresh (cond b (tick table) table)
  fresh_at e table past true is s ticked = is_tick.fresh table past s
  fresh_at e table past false is s ticked = absurd (false≢true (sym is ∙ ticked))

abbrev at : ℕ → Event → Table → Table
at most e table = table_at (bounded_tick most) e table

at_agrees : (most : ℕ) (e : Event) (table : Table) (past : List Event) → Agrees table past → Agrees (at most e table) past
at_agrees most e table past s = agrees_at (bounded_tick most) (bounded_tick_is_tick most) table past (ticks e table.last) s

at_fresh : (most : ℕ) (e : Event) (table : Table) (past : List Event) → Agrees table past → ticks e (at most e table).last ≡ true → IsFresh (at most e table)
at_fresh most e table past s = fresh_at (bounded_tick most) (bounded_tick_is_tick most) e table past (ticks e table.last) refl s

pub agrees_on : AgreesOn
agrees_on most e table past formed s = event_agrees e (at most e table) past formed (at_fresh most e table past s) (at_agrees most e table past s)

pub counts_on : CountsOn
counts_on most e table past formed s h = record {
  frames = frames_after e (at most e table) past formed (at_fresh most e table past s) (at_agrees most e table past s) (ticked_frames most e table ∙ h.frames);
  counter = counter_after e (at most e table) ∙ ticked_counter most e table
      ∙ (λ i. cond (ticks e (s.last i)) (next_counter most (h.counter i) (h.frames i)) (h.counter i));
  renumbered = renumbered_after e (at most e table) ∙ ticked_renumbered most e table
      ∙ (λ i. h.renumbered i + cond (ticks e (s.last i) && not (ltb (h.counter i) most)) 1 0);
}

pub stands_on : StandsOn
stands_on most e table past formed fits s = record {
  agrees = agrees_on most e table past formed s.agrees;
  counted = counts_on most e table past formed s.agrees s.counted;
  within = fits;
}

pub finishes_what_ends : FinishesWhatEnds
finishes_what_ends most e table past formed s = event_finishes e (at most e table) past formed.0 (at_agrees most e table past s)

empty_agrees : Agrees empty_table []
empty_agrees = record {
  threads = λ t thread found. absurd (cc);
  written = λ l. refl;
  marks = λ l. refl;
  writes = λ l. omega arith;
  distinct = λ s t u here there. absurd here;
  formed = tt;
  live = λ t. refl;
  rising = tt;
  started = All-nil (λ t. t ≤ 0);
  last = refl;
  greatest = refl;
  weight = refl;
}

pub empty_stands : EmptyStands
empty_stands most least = record { agrees = empty_agrees; counted = record { frames = refl; counter = refl; renumbered = refl }; within = le-leb 3 most least }

pub runs_agree : RunsAgree
runs_agree most [] formed = (empty_agrees, record { frames = refl; counter = refl; renumbered = refl })
runs_agree most (e ∷ past) formed =
    let table = table_of (bounded_tick most) past in
    let before = runs_agree most past formed.2 in
    (agrees_on most e table past formed before.0, counts_on most e table past formed before.0 before.1)

pub finishes_what_is_done : FinishesWhatIsDone
finishes_what_is_done most [] formed = refl
finishes_what_is_done most (e ∷ past) formed =
    let earlier = finishes_what_is_done most past formed.2 in
    let now = finishes_what_ends most e (table_of (bounded_tick most) past) past formed (runs_agree most past formed.2).0 in
    λ i. earlier i ++ now i
