-- What the replies to a script tell of the disk.
use Rattle.std.specs.Prelude.{Bool, true, false, List}
use Rattle.std.specs.List.{list_any}
use Rattle.clfs_model.specs.declared.refusal.Refusal.TheVariants as refusals
use Rattle.clfs_model.specs.declared.reply.Reply.{Reply}
use Rattle.clfs_model.specs.declared.reply.Reply.TheVariants as replies

-- a reply that tells that the disk failed
abbrev pub tells_fault : Reply → Bool
tells_fault (replies.Refused refusals.DiskFault) = true
tells_fault _ = false

-- a reply that tells that bytes of the disk aren't those of a log
abbrev pub tells_damage : Reply → Bool
tells_damage (replies.Refused (refusals.Damaged container offset at)) = true
tells_damage _ = false

-- a reply that tells that an earlier call met one of the two
abbrev pub tells_broken : Reply → Bool
tells_broken (replies.Refused refusals.Broken) = true
tells_broken _ = false

-- some reply tells that the disk failed
abbrev pub has_fault : List Reply → Bool
has_fault answers = list_any tells_fault answers

-- some reply tells damage
abbrev pub has_damage : List Reply → Bool
has_damage answers = list_any tells_damage answers

-- some reply tells that the log is broken
abbrev pub has_broken : List Reply → Bool
has_broken answers = list_any tells_broken answers
