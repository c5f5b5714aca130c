use Rattle.std.proofs.Common.{◌≡◌, ℕ, ◌+◌, List, arith, ap, ap₂, ◌∙◌}
use Rattle.trace_file.specs.Reading.{ReaderState}
use Rattle.trace_file.proofs.ReadBytes.{taken_of}
use Rattle.trace_file.proofs.reader.TraceReader.take_record.Goals as goal

pub returns-clause-ok : goal.returns-clause-ok
returns-clause-ok c past is =
    let at = ap (λ (s : ReaderState). s.at) c.self.view_is in
    let place : c.self.inside.at + c.args.size ≡ c.args.self.now.at + c.args.size = omega (arith, at) in
    taken_of c.args.self.now _ _ past c.args.next c.args.size (c.in_ok-add_record.ensures.ok past is)
    (ap (λ (s : ReaderState). record s { held = c.clear.new.self.items; at = c.self.inside.at + c.args.size }) c.self-2.view_is
    ∙ ap₂ (λ (h : List ℕ) (a : ℕ). record c.add_record.new.self { held = h; at = a }) c.clear.ensures.items place)
