use Rattle.std.proofs.Common.{ap, ◌∙◌, map, List, [], Option, ℕ}
use Rattle.std.specs.Prelude.{unwrap_or}
use Rattle.std.proofs.lemmas.Result.{IfOk-weaker}
use Rattle.clap.specs.Words.{found_of}
use Rattle.clap.proofs.WalkLemmas.{raw_values-rows}
use Rattle.command_line.proofs.matches.texts_of.Goals as goal

pub returns-in-Some : goal.returns-in-Some
returns-in-Some c =
    let given = c.in-Some.ensures ∙ raw_values-rows (found_of c.args.matches.now) c.args.id.now in
    IfOk-weaker c.from_slice.result _ _ (λ texts h. ap (map (λ t. t.now)) h ∙ ap (λ (o : Option (List (List ℕ))). unwrap_or o []) given) c.from_slice.ensures.items

pub returns-in-None : goal.returns-in-None
returns-in-None c =
    let given = c.in-None.ensures ∙ raw_values-rows (found_of c.args.matches.now) c.args.id.now in
    ap (map (λ t. t.now)) c.new.ensures.items ∙ ap (λ (o : Option (List (List ℕ))). unwrap_or o []) given
