use Rattle.std.proofs.Common.{refl}
use Rattle.clfs_model.specs.declared.call.Call.TheVariants as calls
use Rattle.clfs_model.specs.declared.reply.Reply.TheVariants as replies
use Rattle.clfs_engine.proofs.Gathered.{quiet_opened}
use Rattle.clfs_engine.proofs.crowding.opened_stream.Goals as goal

pub returns-in-Stream-clause-quiet : goal.returns-in-Stream-clause-quiet
returns-in-Stream-clause-quiet g c =
    quiet_opened c.args.log.now c.args.session.now c.step.new.session (calls.OpenStream _) (replies.Stream c.in-Stream.number) c.requires.of c.requires.none
    c.step.ensures.same (c.in-Stream.ensures.step refl) refl
