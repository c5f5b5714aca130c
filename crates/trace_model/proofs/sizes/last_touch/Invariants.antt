use Rattle.std.proofs.Common.{◌≡◌, take}
use Rattle.std.specs.Prelude.{reverse}
use Rattle.trace_model.specs.Sizes.{last_touch}
use Rattle.trace_model.proofs.sizes.last_touch.Given as goal

-- no event passed so far touches the word
abbrev pub invariant-loop-i : goal.invariant-loop-i
invariant-loop-i l = last_touch (reverse l.events) l.tid l.word ≡ last_touch (reverse (take l.i l.events)) l.tid l.word
