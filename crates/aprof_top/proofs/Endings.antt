-- From how a call ends and its last text to what its status says.
use Rattle.std.proofs.Common.{◌≡◌, ◌⊎◌, ℕ, List, sym, subst, inl, inr, arith, take, []}
use Rattle.host_io.specs.Faults.{Rose}
use Rattle.aprof_top.specs.Answers.{EndsBy, IsAnswered, IsWritten}
use Rattle.aprof_top.specs.Delivery.{FailsAtStats, FailsAtStore, FailsOnErr, FailsOnOut}
use Rattle.aprof_top.specs.Ends.{End, Reaches, end_status}
use Rattle.aprof_top.specs.Ends.End.{Decided, CannotRead, CannotWrite, CannotPut, OutOfMemory}
use Rattle.aprof_top.specs.LastText.{IsPut, LastText}
use Rattle.aprof_top.specs.Outcome.{Outcome}
use Rattle.aprof_top.specs.Outside.{Outside, outside, NothingRose}
use Rattle.aprof_top.specs.declared.ending.Verdict.{Verdict}
use Rattle.host_io.specs.Sink.{SinkState}
use Rattle.aprof_top.proofs.Sinks.{with_stores-faults}
use Rattle.aprof_top.proofs.Statuses.{written_status}

module _ (words : List (List ℕ)) (status : ℕ) (before after : Outside) where
  -- unless memory ran out, the status is the end's
  pub own : (end : End) → EndsBy words end status before after → (status ≡ 10 → ⊥) → status ≡ end_status end
  own end ends had_memory = by ends.told
    where
      by : LastText end status ends.err after.err → status ≡ end_status end
      by (inl tells) = tells.status_is
      by (inr wants) = absurd (had_memory wants.status_is)

  answers : (end : End) → EndsBy words end status before after → IsWritten status → (verdict : Verdict) × EndsBy words (Decided verdict) status before after
  answers (Decided verdict) ends written = (verdict, ends)
  answers (CannotRead path) ends written = absurd (written.could_read (own (CannotRead path) ends written.had_memory))
  answers CannotWrite ends written = absurd (written.could_write (own CannotWrite ends written.had_memory))
  answers CannotPut ends written = absurd (written.could_write (own CannotPut ends written.had_memory))
  answers OutOfMemory ends written = absurd (written.had_memory (own OutOfMemory ends written.had_memory))

  -- the status is this one, and not that of out of memory
  pub is_this : (end : End) (this : ℕ) → EndsBy words end status before after → status ≡ this → (this ≡ 10 → ⊥) → this ≡ end_status end
  is_this end this ends is not_ten = let e = own end ends (λ ten. not_ten (omega (arith, is, ten))) in omega (arith, is, e)

  cannot_read : (end : End) → EndsBy words end status before after → status ≡ 2 → (path : List ℕ) × EndsBy words (CannotRead path) status before after
  cannot_read (Decided verdict) ends two = absurd ((written_status verdict 2 (is_this (Decided verdict) 2 ends two (λ e. omega (arith, e)))).could_read (omega arith))
  cannot_read (CannotRead path) ends two = (path, ends)
  cannot_read CannotWrite ends two = absurd (let e = is_this CannotWrite 2 ends two (λ e. omega (arith, e)) in omega (arith, e))
  cannot_read CannotPut ends two = absurd (let e = is_this CannotPut 2 ends two (λ e. omega (arith, e)) in omega (arith, e))
  cannot_read OutOfMemory ends two = absurd (let e = is_this OutOfMemory 2 ends two (λ e. omega (arith, e)) in omega (arith, e))

  cannot_write : (end : End) → EndsBy words end status before after → status ≡ 4 → EndsBy words CannotWrite status before after ⊎ EndsBy words CannotPut status before after
  cannot_write (Decided verdict) ends four = absurd ((written_status verdict 4 (is_this (Decided verdict) 4 ends four (λ e. omega (arith, e)))).could_write (omega arith))
  cannot_write (CannotRead path) ends four = absurd (let e = is_this (CannotRead path) 4 ends four (λ e. omega (arith, e)) in omega (arith, e))
  cannot_write CannotWrite ends four = inl ends
  cannot_write CannotPut ends four = inr ends
  cannot_write OutOfMemory ends four = absurd (let e = is_this OutOfMemory 4 ends four (λ e. omega (arith, e)) in omega (arith, e))

  -- where nothing rose, no put and no store failed
  not_written : (outcome : Outcome) (err : SinkState) → NothingRose before after → FailsAtStore outcome before (outside after.files after.out err) ⊎ FailsOnOut outcome before (outside after.files after.out err) → ⊥
  not_written outcome err calm (inl fails) =
      calm.faults (subst (λ n. Rose n after.files.faults) (with_stores-faults (take fails.stored.count outcome.stores) before.files) fails.stored.failed.failed.faults)
  not_written outcome err calm (inr fails) = calm.out fails.out.faults

  -- a put on `err` failed, of the output or of the statistics
  pub err_rose : (outcome : Outcome) (err : SinkState) → FailsOnErr outcome before (outside after.files after.out err) ⊎ FailsAtStats outcome before (outside after.files after.out err) → Rose before.err.faults err.faults
  err_rose outcome err (inl fails) = fails.err.faults
  err_rose outcome err (inr fails) = fails.err.faults

  -- nothing was put behind a failed put on `err`
  pub still : (err : SinkState) → IsPut [] err after.err → Rose before.err.faults err.faults → Rose before.err.faults after.err.faults
  still err (inl same) rose = subst (λ (s : SinkState). Rose before.err.faults s.faults) (sym same) rose
  still err (inr (some, fails)) rose = absurd (omega (arith, some))

  -- where nothing rose, the status is one of the written product's, or that of out of memory
  complete : (end : End) → EndsBy words end status before after → NothingRose before after → IsWritten status ⊎ (status ≡ 10)
  complete end ends calm = by end ends.told ends.reached
    where
      by : (end : End) → LastText end status ends.err after.err → Reaches words end before (outside after.files after.out ends.err) → IsWritten status ⊎ (status ≡ 10)
      by end (inr wants) reached = inr wants.status_is
      by (Decided verdict) (inl tells) reached = inl (written_status verdict status tells.status_is)
      by (CannotRead path) (inl tells) reached = absurd (calm.faults reached.failed.faults)
      by CannotWrite (inl tells) reached = absurd (not_written reached.decision.outcome ends.err calm reached.fails)
      by CannotPut (inl tells) reached = absurd (calm.err (still ends.err tells.text (err_rose reached.decision.outcome ends.err reached.fails)))
      by OutOfMemory (inl tells) reached = inr tells.status_is

  -- what the status says, where the call ended so
  pub IsAnswered-from_end : (end : End) → EndsBy words end status before after → IsAnswered words status before after
  IsAnswered-from_end end ends = record {
    answers = answers end ends;
    cannot_read = cannot_read end ends;
    cannot_write = cannot_write end ends;
    out_of_memory = λ ten. (end, ends);
    complete = complete end ends;
  }
