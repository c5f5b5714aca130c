use Rattle.std.proofs.Common.{List, ℕ, ap, arith, length}
use Rattle.trace_file.specs.declared.records.Record.{Record}
use Rattle.trace_file.specs.Records.{number_bytes, record_bytes}
use Rattle.trace_file.proofs.record_reader.record_size.Goals as goal

pub returns-in-OfName : goal.returns-in-OfName
unfolding number_bytes
returns-in-OfName c =
    let whole = ap (λ (r : Record). length (record_bytes r)) c.in-OfName.is in
    let name = ap (λ (bytes : List ℕ). length bytes) c.bytes.ensures.same in
    omega (arith, whole, name)
