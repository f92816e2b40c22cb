use Rattle.std.proofs.Common.{◌∙◌, ◌-◌, ap, arith}
use Rattle.clfs_turn.specs.Lists.{are_distinct}
use Rattle.clfs_engine.proofs.Crews.{never_fails}
use Rattle.clfs_engine.proofs.Gathered.{AreClients, clients_are}
use Rattle.clfs_engine.proofs.crowding.crowded.Given.{Over}
use Rattle.clfs_engine.proofs.crowding.crowded.Goals as goal

-- the clients of this crowd
its_clients : (g : Over) (c : goal.After-clients-1 g) → AreClients c.args.threads c.split_at.result.1.now
its_clients g c =
    let few = c.requires.few.0 in
    clients_are c.args.threads (8 - c.args.threads) c.split_at.result.1.now (omega (arith, few)) c.split_at.ensures.back

pub start_told-requires-clause-apart : goal.start_told-requires-clause-apart
start_told-requires-clause-apart g c = (its_clients g c).apart

pub start_told-requires-clause-ranges : goal.start_told-requires-clause-ranges
start_told-requires-clause-ranges g c = (its_clients g c).ranges

pub closed-requires-clause-calm : goal.closed-requires-clause-calm
closed-requires-clause-calm g c κs within =
    let disk = g.D.Disk.state c.args.manager.1 in
    never_fails c.in-Ok.log c.args.manager.0 disk c.in-Ok.ensures.log.0 c.requires.state c.requires.told c.requires.steady
    (c.whole_files_pass_the_test.ensures.passes disk.files c.requires.whole)

pub closed-requires-clause-apart : goal.closed-requires-clause-apart
closed-requires-clause-apart g c κs within =
    let few = c.requires.few.0 in
    let are = clients_are c.args.threads (8 - c.args.threads) c.split_at.result.1.now (omega (arith, few)) c.split_at.ensures.back in
    ap are_distinct c.in-Ok.ensures.log.1 ∙ are.apart
