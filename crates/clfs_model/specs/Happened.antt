-- What a call met outside, as its reply tells it.
use Rattle.clfs_model.specs.declared.refusal.Refusal.{Refusal}
use Rattle.clfs_model.specs.declared.refusal.Refusal.TheVariants as refusals
use Rattle.clfs_model.specs.declared.reply.Happened.{Happened}
use Rattle.clfs_model.specs.declared.reply.Happened.TheVariants.{Fine, Fault, Damage}
use Rattle.clfs_model.specs.declared.reply.Reply.{Reply}
use Rattle.clfs_model.specs.declared.reply.Reply.TheVariants as replies

-- a refusal for a fault of the disk, for damage, or for what the log and the call are like
abbrev pub happened_of_refusal : Refusal → Happened
happened_of_refusal refusals.DiskFault = Fault
happened_of_refusal (refusals.Damaged container offset at) = Damage
happened_of_refusal _ = Fine

-- a reply that is no refusal tells that nothing happened
abbrev pub happened_of : Reply → Happened
happened_of (replies.Refused refusal) = happened_of_refusal refusal
happened_of _ = Fine
