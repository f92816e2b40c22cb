-- Small logs byte by byte, for the worked rows.
use Rattle.std.specs.Prelude.{ℕ, List, [], ◌∷◌, ◌++◌, replicate}
use Rattle.clfs_lsn.specs.declared.entry.LogEntry.{LogEntry}
use Rattle.clfs_lsn.specs.declared.entry.Kind.TheVariants.{Plain}
use Rattle.clfs_base.specs.declared.image.BaseImage.{BaseImage}
use Rattle.clfs_base.specs.Vector.{small_image}
use Rattle.clfs_recover.specs.Walk.{Container}
use Rattle.clfs_recover.specs.declared.parts.Parts.{Parts}

-- the ten bytes 0 to 9
abbrev pub ten_bytes : List ℕ
ten_bytes = 0 ∷ 1 ∷ 2 ∷ 3 ∷ 4 ∷ 5 ∷ 6 ∷ 7 ∷ 8 ∷ 9 ∷ []

-- A block of one sector at the start of container 1, with one record of ten bytes in stream 1.
abbrev pub one_block : List ℕ
one_block =
    165 ∷ 1 ∷ 1 ∷ 0 ∷ 1 ∷ 0 ∷ 0 ∷ 0 ∷ 64 ∷ 0 ∷ 0 ∷ 0 ∷ 0 ∷ 0 ∷ 0 ∷ 0
    ∷ 10 ∷ 0 ∷ 0 ∷ 0 ∷ 1 ∷ 0 ∷ 1 ∷ 0 ∷ replicate 24 0 ++ (ten_bytes ++ (replicate 446 0 ++ (0 ∷ 0 ∷ 0 ∷ 0 ∷ 1 ∷ 0 ∷ 0 ∷ 0 ∷ [])))

-- that record
abbrev pub one_record : LogEntry
one_record = record { lsn = 4294967296; stream = 1; kind = Plain; previous = 0; undo_next = 0; new_base = 0; bytes = ten_bytes }

-- A base copy with the stream `a`, whose base is this, of a log with blocks of 2 sectors and 2 containers of 8, of which container 1 is listed.
abbrev pub with_stream : ℕ → BaseImage
with_stream base = record small_image { streams = record { name = 97 ∷ []; base = base } ∷ [] }

-- container 1 without blocks: the first gate is closed
abbrev pub no_blocks : List Container
no_blocks = record { bytes = replicate 512 0; blocks = [] } ∷ []

-- container 1 with this block, and a closed gate after it
abbrev pub with_block : List ℕ → List Container
with_block block = record { bytes = block ++ replicate 512 0; blocks = block ∷ [] } ∷ []

-- container 1 with these bytes, in which no block lies whole
abbrev pub with_bytes : List ℕ → List Container
with_bytes bytes = record { bytes = bytes; blocks = [] } ∷ []

-- the log with that record alone, by this base copy
abbrev pub one_record_log : BaseImage → Parts
one_record_log image = record {
  slot = 0;
  image = image;
  entries = one_record ∷ [];
  bases = 0 ∷ [];
  place = record { container = 1; offset = 512; used = 0; records = 0 };
}

-- the log that has just been made
abbrev pub empty_log : BaseImage → Parts
empty_log image = record { slot = 0; image = image; entries = []; bases = []; place = record { container = 1; offset = 0; used = 0; records = 0 } }
