use Rattle.clfs_cursor.proofs.Words.{◌∙◌, true, false, sym, area_at}
use Rattle.clfs_cursor.proofs.OneKind.{no_record_cursor, record_cursor_is}
use Rattle.clfs_cursor.proofs.cursors.Cursors.over_records.Goals as goal

pub returns-in_err-cursor : goal.returns-in_err-cursor
returns-in_err-cursor c =
    c.from_residual.ensures ∙ sym (no_record_cursor (area_at c.args.place c.args.self.now.areas).cursors c.args.number (sym c.in_err-cursor.ensures.cursor))

pub returns-then-is_over_restarts : goal.returns-then-is_over_restarts
returns-then-is_over_restarts c =
    sym (record_cursor_is (area_at c.args.place c.args.self.now.areas).cursors c.args.number c.in_ok-cursor.cursor true c.in_ok-cursor.ensures.different
    (sym c.in_ok-cursor.ensures.cursor) (sym c.is_over_restarts.ensures ∙ c.if-is_over_restarts.true))

pub returns : goal.returns
returns c =
    sym (record_cursor_is (area_at c.args.place c.args.self.now.areas).cursors c.args.number c.in_ok-cursor.cursor false c.in_ok-cursor.ensures.different
    (sym c.in_ok-cursor.ensures.cursor) (sym c.is_over_restarts.ensures ∙ c.if-is_over_restarts.false))
