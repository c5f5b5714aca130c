use Rattle.std.proofs.Common.{◌≡◌, true, take}
use Rattle.guest_words.specs.Separators.{lacks}
use Rattle.guest_words.proofs.text_words.cut.Given as goal

-- the byte is not among those before the place
abbrev pub invariant-loop-place : goal.invariant-loop-place
invariant-loop-place l = lacks l.byte (take l.place l.bytes) ≡ true
