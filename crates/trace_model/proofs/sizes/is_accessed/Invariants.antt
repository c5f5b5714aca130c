use Rattle.std.proofs.Common.{◌≡◌, take}
use Rattle.std.specs.Prelude.{reverse}
use Rattle.trace_model.specs.Sizes.{accessed}
use Rattle.trace_model.proofs.sizes.is_accessed.Given as goal

-- the thread accessed the word at no event passed so far
abbrev pub invariant-loop-i : goal.invariant-loop-i
invariant-loop-i l = accessed (reverse l.inside) l.tid l.word ≡ accessed (reverse (take l.i l.inside)) l.tid l.word
