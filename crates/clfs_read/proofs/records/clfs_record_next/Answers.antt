use Rattle.clfs_read.proofs.Telling.{told_as_the_log}
use Rattle.clfs_read.proofs.records.clfs_record_next.Goals as goal

pub returns-clause-ended : goal.returns-clause-ended
returns-clause-ended c is =
    (told_as_the_log c.args.lsn c.args.streams c.args.payload.now c.args.at c.args.left c.next.result c.next.new.out c.next.ensures).0 is

pub returns-clause-wrong : goal.returns-clause-wrong
returns-clause-wrong c is =
    (told_as_the_log c.args.lsn c.args.streams c.args.payload.now c.args.at c.args.left c.next.result c.next.new.out c.next.ensures).1 is
