use Rattle.std.proofs.Common.{sym}
use Rattle.clfs_record.proofs.encoder.header_of.Goals as goal

pub returns : goal.returns
returns c = c.spell_header.ensures c.args.entry.now.lsn c.args.entry.now.bytes (sym c.requires)
