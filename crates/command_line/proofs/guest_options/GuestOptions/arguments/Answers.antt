use Rattle.std.proofs.Common.{◌≤◌, ap, ◌∙◌, ◌∷◌, length, subst, List, ℕ}
use Rattle.std.specs.Borrow.{Bor}
use Rattle.command_line.proofs.PlainArguments.{all_arguments}
use Rattle.command_line.proofs.guest_options.GuestOptions.arguments.Goals as goal

pub returns : goal.returns
returns c =
    let items = c.args.self.now.words.items in
    let all : length items ≤ c.loop-word.word-index = subst (λ (xs : List (Bor (List ℕ))). length xs ≤ c.loop-word.word-index) c.deref-word-items.ensures.value c.loop-word-test.false in
    c.loop-word.invariant ∙ ap (λ (rest : List (List ℕ)). c.args.self.now.image.now ∷ rest) (all_arguments items c.loop-word.word-index all)
