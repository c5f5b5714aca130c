use Rattle.std.proofs.Common.{◌∙◌, ℕ, List, map, ap}
use Rattle.std.proofs.lemmas.List.{length-map}
use Rattle.stamp_lanes.specs.Plain.{renewals, renewed}
use Rattle.stamp_renumber.proofs.Words.{class_room, own_renewed}
use Rattle.stamp_renumber.proofs.rows.rewrite_row.Goals as goal

pub renew_into-requires-clause-room : goal.renew_into-requires-clause-room
renew_into-requires-clause-room g c =
    let f = g.S.Stamp.number_of in
    class_room (map f c.args.starts.now) (map f c.args.own.now) _ _ g.S.Stamp.MAX c.classes_into.ensures (length-map c.args.starts.now f) c.requires.room

pub returns-clause-value : goal.returns-clause-value
returns-clause-value g c =
    let f = g.S.Stamp.number_of in
    let own = map f c.args.own.now in
    c.renew_into.ensures ∙ ap (λ (classes : List ℕ). map renewed (renewals own classes own classes)) c.classes_into.ensures ∙ own_renewed (map f c.args.starts.now) own
