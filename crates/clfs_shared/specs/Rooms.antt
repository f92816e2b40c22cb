-- How large a reply is at most, of which a copy is kept.
use Rattle.std.specs.Prelude.{◌≤◌, length}
use Rattle.clfs_lsn.specs.Limits.{most_containers}
use Rattle.clfs_lsn.specs.Size.{most_data}
use Rattle.clfs_model.specs.declared.reply.Reply.{Reply}
use Rattle.clfs_model.specs.declared.reply.Reply.TheVariants as replies

-- A record has no more bytes of data than a longest one of any log, and there are no more extents than containers.
abbrev pub FitsSpare : Reply → Type 0
FitsSpare (replies.Found cursor entry) = length entry.bytes ≤ most_data
FitsSpare (replies.Next entry) = length entry.bytes ≤ most_data
FitsSpare (replies.Extents extents) = length extents ≤ most_containers
FitsSpare _ = Unit {0}
