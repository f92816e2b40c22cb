use Rattle.clfs_turn.proofs.TableEnds.{closes, is_home, ended}
use Rattle.clfs_turn.proofs.turn.Turn.close.Goals as goal

pub unwrap-value-requires : goal.unwrap-value-requires
unwrap-value-requires g c =
    let m = g.V.Logged in
    let t = c.self.inside.table.shared in
    let place = c.gather-place in
    is_home m.entries m.client_of m.reached c.args.self c.args.seats.items _ c.take.result
    (closes m.entries m.client_of m.opening m.reached t.key c.args.self t.table_id c.self.view_is _ place.result.me.0 _ _ c.args.seats.items
    place.ensures.idle place.ensures.gathered c.requires.all c.close_with-closed.ensures.values.2)
    c.take.ensures.value

pub returns-clause-seats : goal.returns-clause-seats
returns-clause-seats g c =
    let m = g.V.Logged in
    let t = c.self.inside.table.shared in
    let place = c.gather-place in
    (ended m.entries m.client_of m.reached c.args.self c.args.seats.items _ c.take.result c.unwrap-value.result
    (closes m.entries m.client_of m.opening m.reached t.key c.args.self t.table_id c.self.view_is _ place.result.me.0 _ _ c.args.seats.items
    place.ensures.idle place.ensures.gathered c.requires.all c.close_with-closed.ensures.values.2)
    c.take.ensures.value c.unwrap-value.ensures).each

pub returns-clause-others : goal.returns-clause-others
returns-clause-others g c =
    let m = g.V.Logged in
    let t = c.self.inside.table.shared in
    let place = c.gather-place in
    (ended m.entries m.client_of m.reached c.args.self c.args.seats.items _ c.take.result c.unwrap-value.result
    (closes m.entries m.client_of m.opening m.reached t.key c.args.self t.table_id c.self.view_is _ place.result.me.0 _ _ c.args.seats.items
    place.ensures.idle place.ensures.gathered c.requires.all c.close_with-closed.ensures.values.2)
    c.take.ensures.value c.unwrap-value.ensures).others

pub returns-clause-lawful : goal.returns-clause-lawful
returns-clause-lawful g c =
    let m = g.V.Logged in
    let t = c.self.inside.table.shared in
    let place = c.gather-place in
    (ended m.entries m.client_of m.reached c.args.self c.args.seats.items _ c.take.result c.unwrap-value.result
    (closes m.entries m.client_of m.opening m.reached t.key c.args.self t.table_id c.self.view_is _ place.result.me.0 _ _ c.args.seats.items
    place.ensures.idle place.ensures.gathered c.requires.all c.close_with-closed.ensures.values.2)
    c.take.ensures.value c.unwrap-value.ensures).lawful
