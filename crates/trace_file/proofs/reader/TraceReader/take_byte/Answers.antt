use Rattle.std.proofs.Common.{◌∷◌, [], Option, ap₂}
use Rattle.std.proofs.lemmas.Result.{IfErr-weaker}
use Rattle.trace_file.specs.declared.errors.TraceError.{TraceError}
use Rattle.trace_file.specs.Reading.{ReaderState}
use Rattle.trace_file.proofs.Feeding.{fed_refused, wants_refused}
use Rattle.trace_file.proofs.reader.TraceReader.take_byte.Goals as goal

pub returns-clause-fed : goal.returns-clause-fed
returns-clause-fed c = fed_refused c.args.self.now _ _ (c.args.byte ∷ []) _ _ c.next_byte-read.result c.requires.none c.next_byte-read.ensures.fed
    (ap₂ (λ (s : ReaderState) (o : Option TraceError). record s { refusal = o }) c.self.view_is c.err-self-inside.ensures.value)

pub returns-clause-memory : goal.returns-clause-memory
returns-clause-memory c =
    let view = ap₂ (λ (s : ReaderState) (o : Option TraceError). record s { refusal = o }) c.self.view_is c.err-self-inside.ensures.value in
    IfErr-weaker c.next_byte-read.result _ _ (λ e wants memory. wants_refused c.args.self.now _ _ _ (c.args.byte ∷ []) _ _ c.requires.none (wants memory) view) c.next_byte-read.ensures.memory
