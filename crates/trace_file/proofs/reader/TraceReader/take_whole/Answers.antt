use Rattle.std.proofs.Common.{◌++◌, List, Option, ℕ, arith, ap, ap₂, refl, length}
use Rattle.std.proofs.lemmas.Result.{IfErr-weaker}
use Rattle.trace_file.specs.declared.errors.TraceError.{TraceError}
use Rattle.trace_file.specs.Reading.{ReaderState}
use Rattle.trace_file.specs.Records.{record_bytes}
use Rattle.trace_file.proofs.Feeding.{fed_record, fed_refused, fed_taken, wants_next, wants_record, wants_refused}
use Rattle.trace_file.proofs.reader.TraceReader.take_whole.Goals as goal

pub returns-clause-fed : goal.returns-clause-fed
returns-clause-fed c =
    let s = c.args.self.now in
    let more = record_bytes c.args.next in
    let whole = ap (λ (held : List ℕ). held ++ more) c.requires.between.held in
    let done = c.take_record-read.ensures in
    fed_refused s _ _ more _ _ c.take_record-read.result c.requires.none
    (fed_record s _ more _ _ c.take_record-read.result c.requires.between.line
    (fed_taken s s _ more c.args.next c.args.size _ _ c.take_record-read.result c.requires.between.finish refl c.requires.fits (λ bytes past is. whole)
    (omega (arith, c.requires.size, ap (λ (text : List ℕ). length text) whole)) done.ok done.err done.appended done.kept))
    (ap₂ (λ (s : ReaderState) (o : Option TraceError). record s { refusal = o }) c.self.view_is c.err-self-inside.ensures.value)

pub returns-clause-memory : goal.returns-clause-memory
returns-clause-memory c =
    let s = c.args.self.now in
    let more = record_bytes c.args.next in
    let whole = ap (λ (held : List ℕ). held ++ more) c.requires.between.held in
    let done = c.take_record-read.ensures in
    let view = ap₂ (λ (s : ReaderState) (o : Option TraceError). record s { refusal = o }) c.self.view_is c.err-self-inside.ensures.value in
    IfErr-weaker c.take_record-read.result _ _
    (λ e wants memory. wants_refused s _ _ _ more _ _ c.requires.none (wants_record s _ more _ _ c.requires.between.line (wants memory)) view)
    (wants_next s s _ more c.args.next _ _ c.take_record-read.result c.requires.between.finish refl c.requires.fits (λ bytes past is. whole) done.memory done.same done.kept)
