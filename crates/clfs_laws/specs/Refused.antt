-- The refusals of calls' own lists, and the other ones.
use Rattle.std.specs.Prelude.{Bool, true, false}
use Rattle.clfs_model.specs.declared.refusal.Refusal.{Refusal}
use Rattle.clfs_model.specs.declared.refusal.Refusal.TheVariants as refusals
use Rattle.clfs_model.specs.declared.reply.Reply.{Reply}
use Rattle.clfs_model.specs.declared.reply.Reply.TheVariants as replies

-- A refusal that stands in a call's list. The others tell of memory, of the disk, of what the disk gave, of an earlier call, or of a
-- line that asks for nothing.
abbrev pub is_of_call : Refusal → Bool
is_of_call refusals.NoMemory = false
is_of_call refusals.DiskFault = false
is_of_call refusals.Broken = false
is_of_call (refusals.Damaged container offset at) = false
is_of_call (refusals.BadLine at) = false
is_of_call _ = true

-- a reply that is none of these others
abbrev pub is_own_reply : Reply → Bool
is_own_reply (replies.Refused refusal) = is_of_call refusal
is_own_reply _ = true
