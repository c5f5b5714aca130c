use Rattle.std.proofs.Common.{arith}
use Rattle.std.specs.Io.Take.{take_inner, take_limit}
use Rattle.host_io.proofs.Reading.{kept_is_all}
use Rattle.host_io.proofs.real_files.read_whole.Goals as goal

pub returns-clause-whole : goal.returns-clause-whole
returns-clause-whole g c =
    let buffer = c.read_to_end-read.new.buf in
    let front = rw c.new-bytes.ensures.items at c.read_to_end-read.ensures.bytes in
    kept_is_all (take_limit c.args.reader) c.args.most (g.R.Read.remaining (take_inner c.args.reader)) buffer c.read_to_end-read.result c.loaded.result c.loaded.ensures.only front
    (λ small. omega (arith, c.requires.stops, small))
