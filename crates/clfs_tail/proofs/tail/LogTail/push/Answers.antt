use Rattle.std.proofs.Common.{arith}
use Rattle.std.proofs.lemmas.Grind.{common_steps}
use Rattle.clfs_tail.proofs.Joining.{joined}
use Rattle.clfs_tail.proofs.tail.LogTail.push.Goals as goal

pub returns-then-is_none-clause-firsts : goal.returns-then-is_none-clause-firsts
returns-then-is_none-clause-firsts c = grind (arith, common_steps)

pub returns-then-is_none-clause-told : goal.returns-then-is_none-clause-told
returns-then-is_none-clause-told c = λ bases heads head are own at above live.
    rw (returns-then-is_none-clause-firsts c) (joined c.args.self.now.firsts c.args.stream c.args.lsn bases heads head c.requires.some c.requires.there are own at above live)

pub returns-else-is_none-clause-firsts : goal.returns-else-is_none-clause-firsts
returns-else-is_none-clause-firsts c = grind (arith, common_steps)

pub returns-else-is_none-clause-told : goal.returns-else-is_none-clause-told
returns-else-is_none-clause-told c = λ bases heads head are own at above live.
    let joins = joined c.args.self.now.firsts c.args.stream c.args.lsn bases heads head c.requires.some c.requires.there are own at above live in
    rw (← returns-else-is_none-clause-firsts c) at joins
