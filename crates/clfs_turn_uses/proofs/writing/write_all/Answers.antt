use Rattle.std.proofs.Common.{rules}
use Rattle.clfs_turn_uses.proofs.Adding.{one_more}
use Rattle.clfs_turn_uses.proofs.writing.write_all.Goals as goal

pub loop-number-preserved : goal.loop-number-preserved
loop-number-preserved g c =
    let i = c.loop-number.invariant in
    record {
      same = search rules;
      client = i.client;
      written = one_more c.args.seat c.loop-number.seat c.call.new.seat c.client-client.result c.loop-number.number i.client i.written c.in-Ok.ensures.called;
    }
