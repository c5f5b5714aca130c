-- What comes to the sinks, move by move.
use Rattle.std.proofs.Common.{◌≡◌, ℕ, List, [], ◌∷◌, ◌++◌, Option, Some, None, refl, sym, ap, ap₂, ◌∙◌, append-nil, append_assoc}
use Rattle.std.specs.Io.KnownBytes.{append_known}
use Rattle.guest_kernel.specs.declared.channel.Channel.{Channel}
use Rattle.guest_kernel.specs.declared.channel.Channel.TheVariants as channel
use Rattle.host_io.specs.Sink.{SinkState, appended}
use Rattle.guest_run.specs.Output.{Sinks, with_output}
use Rattle.guest_run.specs.Private.Steps.{with_sent}
use Rattle.guest_run.specs.Run.{Move, bytes_on, events_of, sent}

known-nil : (known : Option (List ℕ)) → append_known known [] ≡ known
known-nil None = refl
known-nil (Some bytes) = ap Some (append-nil bytes)

known-more : (known : Option (List ℕ)) (some more : List ℕ) → append_known (append_known known some) more ≡ append_known known (some ++ more)
known-more None some more = refl
known-more (Some bytes) some more = ap Some (append_assoc bytes some more)

pub appended-nil : (s : SinkState) → appended s [] ≡ s
appended-nil s = ap (λ bytes. record s { bytes = bytes }) (known-nil s.bytes)

pub appended-more : (s : SinkState) (some more : List ℕ) → appended (appended s some) more ≡ appended s (some ++ more)
appended-more s some more = ap (λ bytes. record s { bytes = bytes }) (known-more s.bytes some more)

pub bytes_on-append : (on : Channel) (moves more : List Move) → bytes_on on (moves ++ more) ≡ bytes_on on moves ++ bytes_on on more
bytes_on-append on [] more = refl
bytes_on-append on (move ∷ moves) more =
    ap (λ bytes. sent on move.out ++ bytes) (bytes_on-append on moves more)
    ∙ sym (append_assoc (sent on move.out) (bytes_on on moves) (bytes_on on more))

-- the bytes of one more move
bytes_on-last : (on : Channel) (moves : List Move) (move : Move) → bytes_on on (moves ++ move ∷ []) ≡ bytes_on on moves ++ sent on move.out
bytes_on-last on moves move = bytes_on-append on moves (move ∷ []) ∙ ap (λ bytes. bytes_on on moves ++ bytes) (append-nil (sent on move.out))

with-last : (on : Channel) (s : SinkState) (moves : List Move) (move : Move) →
    appended s (bytes_on on (moves ++ move ∷ [])) ≡ appended (appended s (bytes_on on moves)) (sent on move.out)
with-last on s moves move =
    ap (appended s) (bytes_on-last on moves move) ∙ sym (appended-more s (bytes_on on moves) (sent on move.out))

pub output-last : (moves : List Move) (move : Move) (before : Sinks) → with_output (moves ++ move ∷ []) before ≡ with_sent move.out (with_output moves before)
output-last moves move before =
    ap₂ (λ (out err : SinkState). let s : Sinks = record { out = out; err = err } in s) (with-last channel.Out before.out moves move) (with-last channel.Err before.err moves move)

pub output-none : (before : Sinks) → with_output [] before ≡ before
output-none before =
    ap₂ (λ (out err : SinkState). let s : Sinks = record { out = out; err = err } in s) (appended-nil before.out) (appended-nil before.err)

pub events_of-append : (moves more : List Move) → events_of (moves ++ more) ≡ events_of moves ++ events_of more
events_of-append [] more = refl
events_of-append (move ∷ moves) more =
    ap (λ events. move.events ++ events) (events_of-append moves more) ∙ sym (append_assoc move.events (events_of moves) (events_of more))
