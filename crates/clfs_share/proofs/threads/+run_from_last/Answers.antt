use Rattle.std.proofs.Common.{arith}
use Rattle.clfs_share.proofs.Ending.{ended_last, ended_length}
use Rattle.clfs_share.proofs.threads.+run_from_last.Goals as goal

-- there was room for the client that was taken out
pub push_reserved-requires : goal.push_reserved-requires
push_reserved-requires g t c =
    let front = c.pop.new.self in
    let back = c.run_from_last.new.clients in
    let many = ended_length g.C.Service.serves front.items back.items c.run_from_last.ensures.ended in
    let one_less = c.in-Some.ensures.cases in
    omega (arith, many, one_less, back.ok.0, front.ok.0, c.pop.ensures.capacity, c.run_from_last.ensures.room, c.args.clients.now.ok.1)

pub push_reserved-requires-in-Err : goal.push_reserved-requires-in-Err
push_reserved-requires-in-Err g t c =
    let front = c.pop.new.self in
    let back = c.run_from_last-in-Err.new.clients in
    let many = ended_length g.C.Service.serves front.items back.items c.run_from_last-in-Err.ensures.ended in
    let one_less = c.in-Some.ensures.cases in
    omega (arith, many, one_less, back.ok.0, front.ok.0, c.pop.ensures.capacity, c.run_from_last-in-Err.ensures.room, c.args.clients.now.ok.1)

-- the thread gave back what it promised
pub returns-in-Ok-clause-ended : goal.returns-in-Ok-clause-ended
returns-in-Ok-clause-ended g t c =
    let kept = c.join.ensures in
    let one = rw (c.in-Ok.ensures.ok, c.of.ensures) at kept in
    ended_last g.C.Service.serves c.args.clients.now.items c.pop.new.self.items
    c.run_from_last.new.clients.items c.push_reserved.new.self.items c.in-Some.client c.join.result c.in-Some.ensures.items c.run_from_last.ensures.ended one
    c.push_reserved.ensures.items

-- the closure came back, and was called here
pub returns-in-Err-clause-ended : goal.returns-in-Err-clause-ended
returns-in-Err-clause-ended g t c =
    let kept = c.run-client.ensures in
    let one = rw c.in-Err.ensures.err at kept in
    ended_last g.C.Service.serves c.args.clients.now.items c.pop.new.self.items
    c.run_from_last-in-Err.new.clients.items c.push_reserved-in-Err.new.self.items c.in-Some.client c.run-client.result c.in-Some.ensures.items
    c.run_from_last-in-Err.ensures.ended one c.push_reserved-in-Err.ensures.items
