use Rattle.clfs_race.proofs.FirstFeed.{no_feed, none_before, split_there}
use Rattle.clfs_race.proofs.lines.ended_line.Goals as goal

pub returns-in-Some : goal.returns-in-Some
returns-in-Some c =
    rw c.split_at.ensures.front (none_before c.args.bytes.now c.in-Some.at c.in-Some.ensures.0, split_there c.args.bytes.now c.in-Some.at c.in-Some.ensures.0 c.in-Some.ensures.1)

pub returns-in-None : goal.returns-in-None
returns-in-None c = no_feed c.args.bytes.now c.in-None.ensures
