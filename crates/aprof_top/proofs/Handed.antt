-- How the output and the files of a run are handed out, by how its run ended.
use Rattle.std.proofs.Common.{◌≡◌, ℕ, ◌<◌, List, [], ◌∷◌, ◌++◌, Option, Some, None, length, take, drop, refl, sym, ap, subst, ◌∙◌, append_assoc, inr, arith}
use Rattle.std.proofs.lemmas.List.{take-append-drop}
use Rattle.host_io.specs.Files.{FilesState}
use Rattle.host_io.specs.Sink.{SinkState, appended}
use Rattle.guest_kernel.specs.declared.channel.Channel.{Channel}
use Rattle.guest_kernel.specs.declared.channel.Channel.TheVariants as channel
use Rattle.guest_run.specs.Output.{FailsToPut, Sinks, with_output}
use Rattle.guest_run.specs.Run.{Move, bytes_on, sent}
use Rattle.guest_run.specs.RunEnds.{IsGivenUp, StopsAtPut}
use Rattle.aprof_top.specs.Delivery.{FailsOnErr, FailsOnOut, FailsWithin, PutsOutput, StopsShort}
use Rattle.aprof_top.specs.Outcome.{Outcome, Write, put_on, with_write, writes_of}
use Rattle.aprof_top.specs.Outside.{outside}

-- what bytes begin with is their first ones
pub first_of : (p q : List ℕ) → take (length p) (p ++ q) ≡ p
first_of [] q = refl
first_of (x ∷ p) q = ap (λ rest. x ∷ rest) (first_of p q)

-- ---- writes and moves
pub put_on-append : (on : Channel) (writes more : List Write) → put_on on (writes ++ more) ≡ put_on on writes ++ put_on on more
put_on-append on [] more = refl
put_on-append on (write ∷ writes) more =
    ap (λ bytes. sent on (Some write) ++ bytes) (put_on-append on writes more)
    ∙ sym (append_assoc (sent on (Some write)) (put_on on writes) (put_on on more))

with_write-append : (out : Option Write) (writes more : List Write) → with_write out (writes ++ more) ≡ with_write out writes ++ more
with_write-append None writes more = refl
with_write-append (Some write) writes more = refl

writes_of-append : (moves more : List Move) → writes_of (moves ++ more) ≡ writes_of moves ++ writes_of more
writes_of-append [] more = refl
writes_of-append (move ∷ moves) more = ap (with_write move.out) (writes_of-append moves more) ∙ with_write-append move.out (writes_of moves) (writes_of more)

sent_none : (on : Channel) → sent on None ≡ []
sent_none channel.Out = refl
sent_none channel.Err = refl

-- what moves put on a channel is what their writes do
pub put_is : (on : Channel) (moves : List Move) → put_on on (writes_of moves) ≡ bytes_on on moves
put_is on [] = refl
put_is on (move ∷ moves) = by move.out (put_is on moves)
  where
    by : (out : Option Write) → put_on on (writes_of moves) ≡ bytes_on on moves → put_on on (with_write out (writes_of moves)) ≡ sent on out ++ bytes_on on moves
    by None rest = rest ∙ ap (λ bytes. bytes ++ bytes_on on moves) (sym (sent_none on))
    by (Some write) rest = ap (λ bytes. sent on (Some write) ++ bytes) rest

-- What a move puts on a channel is one write.
record IsWrite (on : Channel) (out : Option Write) : Type 0 where
  bytes : List ℕ
  is : out ≡ Some (on, bytes)
  sent_is : sent on out ≡ bytes

one_write : (on : Channel) (out : Option Write) → 0 < length (sent on out) → IsWrite on out
one_write channel.Out (Some (channel.Out, bytes)) some = record { bytes = bytes; is = refl; sent_is = refl }
one_write channel.Err (Some (channel.Err, bytes)) some = record { bytes = bytes; is = refl; sent_is = refl }
one_write channel.Out (Some (channel.Err, bytes)) some = absurd (omega (arith, some))
one_write channel.Err (Some (channel.Out, bytes)) some = absurd (omega (arith, some))
one_write channel.Out None some = absurd (omega (arith, some))
one_write channel.Err None some = absurd (omega (arith, some))

-- the writes of moves before one, its own, and those of the moves behind it
around : (on : Channel) (moves earlier later : List Move) (move : Move) (bytes : List ℕ) → earlier ++ move ∷ later ≡ moves → move.out ≡ Some (on, bytes)
    → writes_of earlier ++ (on, bytes) ∷ writes_of later ≡ writes_of moves
around on moves earlier later move bytes are is =
    ap (λ out. writes_of earlier ++ with_write out (writes_of later)) (sym is) ∙ sym (writes_of-append earlier (move ∷ later)) ∙ ap writes_of are

-- a put of one write failed
fails_within : (on : Channel) (earlier : List Move) (out : Option Write) (old new : SinkState) (write : IsWrite on out) →
    FailsToPut (sent on out) (appended old (bytes_on on earlier)) new → FailsWithin write.bytes (appended old (put_on on (writes_of earlier))) new
fails_within on earlier out old new write fails =
    subst (λ bytes. FailsWithin write.bytes (appended old bytes) new) (sym (put_is on earlier))
    (subst (λ bytes. FailsWithin bytes (appended old (bytes_on on earlier)) new) write.sent_is
    (record { some = fails.some; faults = fails.failed.faults; count = fails.failed.front; gained = fails.failed.gained }))

pub puts_all : (outcome : Outcome) (moves : List Move) → outcome.writes ≡ writes_of moves → (files new : FilesState) (before after : Sinks) →
    after ≡ with_output moves before → PutsOutput outcome (outside files before.out before.err) (outside new after.out after.err)
puts_all outcome moves are files new before after is = record {
  out = ap (λ (s : Sinks). s.out) is ∙ ap (appended before.out) (puts channel.Out);
  err = ap (λ (s : Sinks). s.err) is ∙ ap (appended before.err) (puts channel.Err);
}
  where
    puts : (on : Channel) → bytes_on on moves ≡ put_on on outcome.writes
    puts on = sym (put_is on moves) ∙ ap (put_on on) (sym are)

module _ (outcome : Outcome) (moves : List Move) (writes_are : outcome.writes ≡ writes_of moves) (files : FilesState) (before after : Sinks) where
  pub fails_on_out : StopsAtPut channel.Out moves before after → FailsOnOut outcome (outside files before.out before.err) (outside files after.out after.err)
  fails_on_out stops =
      let write = one_write channel.Out stops.move.out stops.failed.0.some in
      record {
        earlier = writes_of stops.earlier;
        bytes = write.bytes;
        later = writes_of stops.later;
        are = around channel.Out moves stops.earlier stops.later stops.move write.bytes stops.are write.is ∙ sym writes_are;
        out = fails_within channel.Out stops.earlier stops.move.out before.out after.out write stops.failed.0;
        err = stops.failed.1 ∙ ap (appended before.err) (sym (put_is channel.Err stops.earlier));
        files = refl;
      }

  pub fails_on_err : StopsAtPut channel.Err moves before after → FailsOnErr outcome (outside files before.out before.err) (outside files after.out after.err)
  fails_on_err stops =
      let write = one_write channel.Err stops.move.out stops.failed.0.some in
      record {
        earlier = writes_of stops.earlier;
        bytes = write.bytes;
        later = writes_of stops.later;
        are = around channel.Err moves stops.earlier stops.later stops.move write.bytes stops.are write.is ∙ sym writes_are;
        out = stops.failed.1 ∙ ap (appended before.out) (sym (put_is channel.Out stops.earlier));
        err = fails_within channel.Err stops.earlier stops.move.out before.err after.err write stops.failed.0;
        files = refl;
      }

  pub stops_short : IsGivenUp moves before after → StopsShort outcome (outside files before.out before.err) (outside files after.out after.err)
  stops_short gives = record {
    earlier = writes_of gives.earlier;
    later = writes_of gives.later;
    are = sym (writes_of-append gives.earlier gives.later) ∙ ap writes_of gives.are ∙ sym writes_are;
    out = ap (λ (s : Sinks). s.out) gives.output ∙ ap (appended before.out) (sym (put_is channel.Out gives.earlier));
    err = ap (λ (s : Sinks). s.err) gives.output ∙ ap (appended before.err) (sym (put_is channel.Err gives.earlier));
    count = 0;
    files = refl;
    output_first = inr refl;
  }

-- ---- the first of some writes
-- what they put on a channel is a first part of what all put there
pub first_put : (on : Channel) (writes earlier later : List Write) → earlier ++ later ≡ writes → take (length (put_on on earlier)) (put_on on writes) ≡ put_on on earlier
first_put on writes earlier later are =
    ap (take (length (put_on on earlier))) (ap (put_on on) (sym are) ∙ put_on-append on earlier later) ∙ first_of (put_on on earlier) (put_on on later)

-- and so it is with a first part of the next one
pub first_put-more : (on : Channel) (count : ℕ) (writes earlier later : List Write) (bytes : List ℕ) → sent on (Some (on, bytes)) ≡ bytes → earlier ++ (on, bytes) ∷ later ≡ writes
    → take (length (put_on on earlier ++ take count bytes)) (put_on on writes) ≡ put_on on earlier ++ take count bytes
first_put-more on count writes earlier later bytes own are =
    let front = put_on on earlier in
    let some = take count bytes in
    let rest = put_on on later in
    let whole : put_on on writes ≡ (front ++ some) ++ (drop count bytes ++ rest) =
    ap (put_on on) (sym are) ∙ put_on-append on earlier ((on, bytes) ∷ later) ∙ ap (λ b. front ++ (b ++ rest)) (own ∙ sym (take-append-drop count bytes))
    ∙ ap (λ b. front ++ b) (append_assoc some (drop count bytes) rest) ∙ sym (append_assoc front some (drop count bytes ++ rest)) in
    ap (take (length (front ++ some))) whole ∙ first_of (front ++ some) (drop count bytes ++ rest)
