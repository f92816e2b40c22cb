use Rattle.std.proofs.Common.{arith}
use Rattle.clfs_engine.proofs.Crews.{last_done}
use Rattle.clfs_engine.proofs.working.joined.Goals as goal

pub loop-worker-init : goal.loop-worker-init
loop-worker-init g c =
    let done = last_done c.args.count c.args.workers.items c.pop.new.self.items c.in_ok-all.all c.in_ok-all.ensures.items c.requires.worked in
    let one = done.0.1 in
    let more = done.1.1 in
    record { worked = done.0.0; parts = omega (arith, one, more); rest = done.1.0 }

pub join-requires-clause-other : goal.join-requires-clause-other
join-requires-clause-other g c =
    (last_done c.args.count c.loop-worker.workers.items c.pop-in-loop-worker.new.self.items c.in-Some.worker c.in-Some.ensures.items
    c.loop-worker.invariant.rest).0.0

pub join-requires-clause-few : goal.join-requires-clause-few
join-requires-clause-few g c =
    let done = last_done c.args.count c.loop-worker.workers.items c.pop-in-loop-worker.new.self.items c.in-Some.worker c.in-Some.ensures.items
    c.loop-worker.invariant.rest in
    let one = done.0.1 in
    let more = done.1.1 in
    let parts = c.loop-worker.invariant.parts in
    let few = c.requires.few in omega (arith, one, more, parts, few)

pub loop-worker-preserved : goal.loop-worker-preserved
loop-worker-preserved g c =
    let done = last_done c.args.count c.loop-worker.workers.items c.pop-in-loop-worker.new.self.items c.in-Some.worker c.in-Some.ensures.items
    c.loop-worker.invariant.rest in
    let one = done.0.1 in
    let more = done.1.1 in
    let parts = c.loop-worker.invariant.parts in
    let sum = c.join.ensures.parts in
    record { worked = c.join.ensures.worked; parts = omega (arith, one, more, parts, sum); rest = done.1.0 }

pub returns-clause-parts : goal.returns-clause-parts
returns-clause-parts g c =
    let parts = c.loop-worker.invariant.parts in
    let none = c.in_default.ensures.cases.0 in
    let len = c.loop-worker.workers.ok.0 in omega (arith, parts, none, len)
