use Rattle.std.proofs.Common.{refl}
use Rattle.clfs_model.specs.declared.call.Call.TheVariants as calls
use Rattle.clfs_model.specs.declared.reply.Reply.TheVariants as replies
use Rattle.clfs_engine.proofs.Crews.{after_step, none_placed}
use Rattle.clfs_engine.proofs.crewing.opened_stream.Goals as goal

pub returns-in-Stream-clause-entries : goal.returns-in-Stream-clause-entries
returns-in-Stream-clause-entries g c =
    after_step c.args.session.now c.step.new.session (calls.OpenStream _) (replies.Stream c.in-Stream.number) 0 (c.in-Stream.ensures.step refl) refl
    (none_placed _ c.requires.none)
