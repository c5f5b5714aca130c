-- How long records are.
use Rattle.std.proofs.Common.{◌≡◌, ◌≢◌, ℕ, ◌+◌, ◌<◌, ◌≤◌, List, [], ◌∷◌, length, refl, ap, sym, ◌∙◌, arith, length-append}
use Rattle.guest_words.specs.declared.endings.Finish.TheVariants as ends
use Rattle.trace_model.specs.declared.event_kinds.Event.TheVariants as events
use Rattle.trace_file.specs.declared.records.Record.{Record}
use Rattle.trace_file.specs.declared.records.Record.TheVariants.{OfEvent, OfName, OfFinish}
use Rattle.trace_file.specs.Records.{Fits, number_bytes, record_bytes}
use Rattle.trace_file.specs.Pieces.{IsBegun, IsRecord}

-- no record is longer than the longest name's
record_length : (r : Record) → Fits r → length (record_bytes r) ≤ 1033
unfolding number_bytes
record_length (OfEvent (events.Step tid)) fits = omega arith
record_length (OfEvent _) fits = omega arith
record_length (OfName entry name) fits = let most : length name ≤ 1024 = fits.ranges.1.0.1 in omega arith
record_length (OfFinish (ends.Exit status)) fits = omega arith
record_length (OfFinish _) fits = omega arith

some : (xs : List ℕ) → xs ≢ [] → 1 ≤ length xs
some [] full = absurd (full refl)
some (x ∷ xs) full = omega arith

-- and what is begun is shorter
pub begun_length : (held : List ℕ) → IsBegun IsRecord held → length held < 1033
begun_length held begun =
    let whole : length held + length begun.more ≡ length (record_bytes begun.text.0) = sym (length-append held begun.more) ∙ ap length begun.text.2 in
    let most = record_length begun.text.0 begun.text.1 in
    let rest = some begun.more begun.some in
    omega arith
