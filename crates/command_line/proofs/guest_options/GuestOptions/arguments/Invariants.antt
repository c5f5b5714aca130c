use Rattle.std.proofs.Common.{◌≡◌, ◌∷◌, map, take, string_bytes}
use Rattle.command_line.specs.Options.{argument_of}
use Rattle.command_line.proofs.guest_options.GuestOptions.arguments.Given as goal

-- the image, and the arguments of the words so far
abbrev pub invariant-loop-word : goal.invariant-loop-word
invariant-loop-word l = map string_bytes l.arguments.items ≡ l.self.image.now ∷ map (λ word. argument_of word.now) (take l.word-index l.self.words.items)
