-- What is observed of a run, move by move.
use Rattle.std.proofs.Common.{◌≡◌, ℕ, ◌+◌, Bool, true, false, cond, List, [], ◌∷◌, ◌++◌, length, reverse, refl, sym, ap, ◌∙◌, append-nil}
use Rattle.std.proofs.lemmas.Bool.{true≢false}
use Rattle.guest_words.specs.declared.endings.Finish.{Finish}
use Rattle.guest_words.specs.declared.endings.Finish.TheVariants.{Deep}
use Rattle.trace_model.specs.declared.event_kinds.Event.{Event}
use Rattle.trace_model.specs.Cut.{IsPrefixClosed, cut, past_after}
use Rattle.trace_model.proofs.Cut.{cut-earlier, cut-fits, fits-earlier, past_after-append}
use Rattle.guest_machine.specs.Machine.{MachineState}
use Rattle.guest_run.specs.Private.Going.{Leads, observed, past_by, with_moves}
use Rattle.guest_run.specs.Machine.{guest}
use Rattle.guest_run.specs.ObservedRun.{ObservedRun, moves_kept, observed_run}
use Rattle.guest_run.specs.Run.{Move, Position, WrittenRun, events_of, run_from, with_move}
use Rattle.guest_run.proofs.Output.{events_of-append}

-- an observed run after these moves
abbrev pub with_first : List Move → ObservedRun → ObservedRun
with_first moves p = record { moves = moves ++ p.moves; past = p.past; finish = p.finish }

pub past-append : (first : List Event) (moves more : List Move) → past_by first (moves ++ more) ≡ past_by (past_by first moves) more
past-append first moves more = ap (past_after first) (events_of-append moves more) ∙ past_after-append first (events_of moves) (events_of more)

pub past-last : (first : List Event) (moves : List Move) (move : Move) → past_by first (moves ++ move ∷ []) ≡ past_after (past_by first moves) move.events
past-last first moves move = past-append first moves (move ∷ []) ∙ ap (past_after (past_by first moves)) (append-nil move.events)

module _ (fits : List Event → Bool) (closed : IsPrefixClosed fits) where
  fits-before : (past newer : List Event) → fits (newer ++ past) ≡ true → fits past ≡ true
  fits-before past newer is = by (fits past) refl
    where
      by : (b : Bool) → fits past ≡ b → b ≡ true
      by true now = refl
      by false now = absurd (true≢false (sym is ∙ fits-earlier fits closed past newer now))

  kept-after : (first : List Event) (moves rest : List Move) → fits (past_by first moves) ≡ true →
      moves_kept fits first (moves ++ rest) ≡ moves ++ moves_kept fits (past_by first moves) rest
  kept-after first [] rest is = refl
  kept-after first (move ∷ moves) rest is =
      let next = past_after first move.events in
      let whole : past_by first (move ∷ moves) ≡ past_by next moves = past_after-append first move.events (events_of moves) in
      let later : fits (past_by next moves) ≡ true = ap fits (sym whole) ∙ is in
      let now : fits next ≡ true = fits-before next (reverse (events_of moves)) later in
      ap (λ b. move ∷ cond b (moves_kept fits next (moves ++ rest)) []) now
      ∙ ap (λ kept. move ∷ kept) (kept-after next moves rest later)
      ∙ ap (λ past. move ∷ moves ++ moves_kept fits past rest) (sym whole)

  observed_run-after : (first : List Event) (moves : List Move) (run : WrittenRun) → fits (past_by first moves) ≡ true →
      observed_run fits first (with_moves moves run) ≡ with_first moves (observed_run fits (past_by first moves) run)
  unfolding observed_run
  observed_run-after first moves run is =
      let of : List Move → List Event → ObservedRun = λ kept whole. record { moves = kept; past = cut fits whole; finish = cond (fits whole) run.finish Deep } in
      ap (λ kept. of kept (past_by first (moves ++ run.moves))) (kept-after first moves run.moves is)
      ∙ ap (of (moves ++ moves_kept fits (past_by first moves) run.moves)) (past-append first moves run.moves)

  -- what is observed of the whole run, by the run from where it stands
  pub observed-after : (first : List Event) (start at : Position MachineState) (moves : List Move) → Leads start moves at → fits (past_by first moves) ≡ true →
      (n : ℕ) → observed fits first start (length moves + n) ≡ with_first moves (observed_run fits (past_by first moves) (run_from guest n at))
  observed-after first start at moves leads is n =
      ap (observed_run fits first) (leads n) ∙ observed_run-after first moves (run_from guest n at) is

  -- a run of no move, and of one
  pub observed_run-none : (past : List Event) (finish : Finish) → fits past ≡ true →
      observed_run fits past (record { moves = []; finish = finish }) ≡ record { moves = []; past = past; finish = finish }
  unfolding observed_run
  observed_run-none past finish is =
      let of : List Event → Finish → ObservedRun = λ whole end. record { moves = []; past = whole; finish = end } in
      ap (λ whole. of whole (cond (fits past) finish Deep)) (cut-fits fits past is) ∙ ap (λ b. of past (cond b finish Deep)) is

  module _ (past : List Event) (move : Move) where
    one : List Event → Bool → Finish → ObservedRun
    one whole b finish = record { moves = move ∷ []; past = whole; finish = cond b finish Deep }

    last-none : (b : Bool) (next : List Event) → move ∷ cond b (moves_kept fits next []) [] ≡ move ∷ []
    last-none true next = refl
    last-none false next = refl

    pub observed_run-one : (finish : Finish) → fits (past_after past move.events) ≡ true →
        observed_run fits past (record { moves = move ∷ []; finish = finish }) ≡ record { moves = move ∷ []; past = cut fits (past_after past move.events); finish = finish }
    unfolding observed_run one
    observed_run-one finish is =
        let next = past_after past move.events in
        let whole : past_after past (move.events ++ []) ≡ next = ap (past_after past) (append-nil move.events) in
        let of : List Move → List Event → ObservedRun = λ kept whole. record { moves = kept; past = cut fits whole; finish = cond (fits whole) finish Deep } in
        ap (λ kept. of kept (past_after past (move.events ++ []))) (last-none (fits next) next)
        ∙ ap (of (move ∷ [])) whole
        ∙ ap (λ b. one (cut fits next) b finish) is

    pub observed_run-deep : (run : WrittenRun) → fits (past_after past move.events) ≡ false →
        observed_run fits past (with_move move run) ≡ record { moves = move ∷ []; past = cut fits (past_after past move.events); finish = Deep }
    unfolding observed_run one
    observed_run-deep run not_fits =
        let next = past_after past move.events in
        let whole : past_after past (move.events ++ events_of run.moves) ≡ past_by next run.moves = past_after-append past move.events (events_of run.moves) in
        let of : List Move → List Event → ObservedRun = λ kept whole. record { moves = kept; past = cut fits whole; finish = cond (fits whole) run.finish Deep } in
        ap (λ b. of (move ∷ cond b (moves_kept fits next run.moves) []) (past_after past (move.events ++ events_of run.moves))) not_fits
        ∙ ap (of (move ∷ [])) whole
        ∙ ap (λ b. one (cut fits (past_by next run.moves)) b run.finish) (fits-earlier fits closed next (reverse (events_of run.moves)) not_fits)
        ∙ ap (λ cutted. one cutted false run.finish) (cut-earlier fits closed next (reverse (events_of run.moves)) not_fits)

    -- its first move is observed
    pub observed_run-head : (run : WrittenRun) → (later : List Move) × ((observed_run fits past (with_move move run)).moves ≡ move ∷ later)
    unfolding observed_run
    observed_run-head run = (_, refl)
