use Rattle.std.proofs.Common.{sym, ◌∙◌}
use Rattle.clfs_text.proofs.Fields.{some_byte, zero_read}
use Rattle.clfs_text.proofs.lsns.behind_zero.Goals as goal

pub returns : goal.returns
returns c =
    zero_read c.args.rest.now c.split_at.result.1.now (some_byte c.args.rest.now (sym c.is_empty.ensures ∙ c.if-is_empty.false)) c.if-rest-ne58.false
    c.split_at.ensures.back
