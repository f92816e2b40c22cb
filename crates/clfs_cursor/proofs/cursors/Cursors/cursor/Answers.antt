use Rattle.clfs_cursor.proofs.Words.{◌∙◌, ap, sym, Option, Some, is_some, option_map, cursor_by, kind_of, last_of, Numbered, Standing}
use Rattle.clfs_cursor.proofs.Opened.{cursor_seen, numbers_differ, there_by_number}
use Rattle.clfs_cursor.proofs.cursors.Cursors.cursor.Goals as goal

pub returns-in_err-key-clause-cursor : goal.returns-in_err-key-clause-cursor
returns-in_err-key-clause-cursor c =
    let seen = cursor_seen c.self.inside c.args.self.now c.self.view_is c.args.place c.requires c.index.result.now c.index.ensures c.args.number in
    c.from_residual.ensures ∙ sym (seen ∙ ap (λ (o : Option Numbered). option_map (cursor_by c.self.inside.slots) o) c.in_err-key.ensures.key)

pub returns-in_err-key-clause-different : goal.returns-in_err-key-clause-different
returns-in_err-key-clause-different c =
    numbers_differ c.self.inside c.args.self.now c.self.view_is c.args.place c.requires c.index.result.now c.index.ensures c.key.ensures.different

-- a key of an area is in the slab, so this doesn't come
pub returns-in_err-standing-clause-cursor : goal.returns-in_err-standing-clause-cursor
returns-in_err-standing-clause-cursor c =
    let there = there_by_number c.self.inside c.args.self.now c.self.view_is c.args.place c.requires c.index.result.now c.index.ensures c.self.invariant
    c.args.number c.in_ok-key.key c.in_ok-key.ensures.key in
    let gone = ap (λ (o : Option Standing). is_some o) c.in_err-standing.ensures in
    absurd (cc (there, gone))

pub returns-in_err-standing-clause-different : goal.returns-in_err-standing-clause-different
returns-in_err-standing-clause-different c =
    numbers_differ c.self.inside c.args.self.now c.self.view_is c.args.place c.requires c.index.result.now c.index.ensures c.key.ensures.different

pub returns-clause-cursor : goal.returns-clause-cursor
returns-clause-cursor c =
    let seen = cursor_seen c.self.inside c.args.self.now c.self.view_is c.args.place c.requires c.index.result.now c.index.ensures c.args.number in
    sym (seen ∙ ap (λ (o : Option Numbered). option_map (cursor_by c.self.inside.slots) o) c.in_ok-key.ensures.key
    ∙ ap (λ (o : Option Standing). Some (record { number = c.args.number; kind = kind_of o; last = last_of o })) (sym c.in_ok-standing.ensures))

pub returns-clause-different : goal.returns-clause-different
returns-clause-different c =
    numbers_differ c.self.inside c.args.self.now c.self.view_is c.args.place c.requires c.index.result.now c.index.ensures c.key.ensures.different
