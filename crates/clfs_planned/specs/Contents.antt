-- What files hold that are kept as first bytes and a length.
use Rattle.std.specs.Prelude.{ℕ, List}
use Rattle.clfs_disk.specs.Files.{Files, lengthened}
use Rattle.clfs_disk.specs.Table.{files_by}
use Rattle.clfs_planned.specs.declared.contents.Contents.{Contents}

-- The first bytes, and zeros behind them up to the length.
abbrev pub bytes_of : Contents → List ℕ
bytes_of contents = lengthened contents.front.items contents.len

-- The files of a list.
abbrev pub contents_of : List Contents → Files
contents_of = files_by bytes_of
