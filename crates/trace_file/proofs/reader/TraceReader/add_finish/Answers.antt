use Rattle.std.proofs.Common.{Some, ap}
use Rattle.trace_file.specs.Reading.{ReaderState}
use Rattle.trace_file.proofs.Adding.{added_finish}
use Rattle.trace_file.proofs.reader.TraceReader.add_finish.Goals as goal

pub returns : goal.returns
returns c past is = added_finish c.args.self.now _ past c.args.f is c.requires.fits (ap (λ (s : ReaderState). record s { finish = Some c.args.f }) c.self.view_is)
