use Rattle.std.proofs.Common.{◌≡◌, drop}
use Rattle.command_line.specs.Options.{distinct, names}
use Rattle.command_line.proofs.Distinct.{all_found, texts}
use Rattle.command_line.proofs.guest_options.GuestOptions.inputs.Given as goal

-- the names found so far, and those still to be found, are all of them
abbrev pub invariant-loop-word : goal.invariant-loop-word
invariant-loop-word l = all_found (texts l.inputs.items) (texts (drop l.word-index l.self.words.items)) ≡ distinct (names (texts l.self.words.items))
