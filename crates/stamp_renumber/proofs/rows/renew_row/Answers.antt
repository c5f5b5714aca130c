use Rattle.std.proofs.Common.{map}
use Rattle.std.proofs.lemmas.List.{length-map}
use Rattle.stamp_renumber.proofs.Words.{class_room}
use Rattle.stamp_renumber.proofs.rows.renew_row.Goals as goal

pub renew_into-requires-clause-room : goal.renew_into-requires-clause-room
renew_into-requires-clause-room g c =
    let f = g.S.Stamp.number_of in
    class_room (map f c.args.starts.now) (map f c.args.own.now) _ _ g.S.Stamp.MAX c.classes_into.ensures (length-map c.args.starts.now f) c.requires.room
