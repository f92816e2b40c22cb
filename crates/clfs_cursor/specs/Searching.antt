-- What a search finds.
use Rattle.std.specs.Prelude.{List, Option}
use Rattle.clfs_lsn.specs.declared.entry.Head.{Head}
use Rattle.clfs_lsn.specs.Heads.{head_at, head_above}
use Rattle.clfs_cursor.specs.declared.search.Search.{Search}
use Rattle.clfs_cursor.specs.declared.search.Search.TheVariants.{At, Above}

-- the head at the LSN, or the first one above it
abbrev pub found_by : Search → List Head → Option Head
found_by (At lsn) heads = head_at lsn heads
found_by (Above lsn) heads = head_above lsn heads
