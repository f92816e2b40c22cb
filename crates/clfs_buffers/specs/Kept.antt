-- One block that is kept: its used payload, and the bytes of that at which its records begin.
use Rattle.std.specs.Prelude.{◌≡◌, ℕ, ◌+◌, ◌*◌, ◌<◌, ◌≤◌, ◌^◌, List, [], ◌∷◌, length, drop, slice_get, Some, Result, Ok, Err}
use Rattle.clfs_lsn.specs.Format.{sector_payload, block_header, record_header}
use Rattle.clfs_lsn.specs.Limits.{most_block_records, most_block_sectors}
use Rattle.clfs_lsn.specs.Spelling.{record_at, entry_of}
use Rattle.clfs_lsn.specs.declared.entry.LogEntry.{LogEntry}
use Rattle.clfs_block.specs.declared.head.BlockRefusal.{BlockRefusal}
use Rattle.clfs_block.specs.declared.head.BlockRefusal.TheVariants.{Closed, BadByte, NoMemory}
use Rattle.clfs_record.specs.declared.refusal.HeadRefusal.{HeadRefusal}
use Rattle.clfs_record.specs.declared.refusal.HeadRefusal.TheVariants as heads
use Rattle.clfs_buffers.specs.declared.place.BlockPlace.{BlockPlace}
use Rattle.clfs_buffers.specs.Reading.{first_lsn}

-- the records that begin at these bytes of a payload, the first of them at this LSN
abbrev pub records_at : List ℕ → ℕ → List ℕ → List LogEntry
records_at payload lsn [] = []
records_at payload lsn (at ∷ starts) = entry_of lsn (drop at payload) ∷ records_at payload (lsn + 1) starts

-- a record begins at this byte after the header, in a log of so many streams
pub record IsStart (streams : ℕ) (payload : List ℕ) (lsn at : ℕ) : Type 0 where
  pub size : ℕ
  pub is : record_at lsn streams (drop at payload) ≡ Ok (entry_of lsn (drop at payload), size)
  pub behind : block_header ≤ at
  pub within : at + record_header ≤ length payload

-- records begin at these bytes, the first of them at this LSN
abbrev pub AreStarts : ℕ → List ℕ → ℕ → List ℕ → Type 0
AreStarts streams payload lsn [] = Unit {0}
AreStarts streams payload lsn (at ∷ starts) = IsStart streams payload lsn at × AreStarts streams payload (lsn + 1) starts

-- What is kept of a block: at each of the bytes a record begins, and all have LSNs of the block's. The payload is that of a largest block at most.
pub record IsKept (place : BlockPlace) (streams : ℕ) (payload starts : List ℕ) : Type 0 where
  pub records : AreStarts streams payload (first_lsn place) starts
  pub few : length starts ≤ most_block_records
  pub low : place.offset + most_block_records < 2 ^ 32
  pub long : length payload ≤ sector_payload * most_block_sectors

-- these records lie one after the other from an LSN on
abbrev pub HaveLsns : ℕ → List LogEntry → Type 0
HaveLsns lsn records = (i : ℕ) (entry : LogEntry) → slice_get records i ≡ Some entry → entry.lsn ≡ lsn + i

-- the wrong byte of a record
abbrev pub wrong_in : HeadRefusal → ℕ
wrong_in (heads.BadByte at) = at

-- A refusal is the one that reading tells. Out of memory may come in place of any answer.
abbrev pub RefusesAs : {A : Type 0} → BlockRefusal → Result A BlockRefusal → Type 0
RefusesAs Closed read = read ≡ Err Closed
RefusesAs (BadByte at) read = read ≡ Err (BadByte at)
RefusesAs NoMemory read = Unit {0}

-- The answer is the records that reading gives, or its refusal.
abbrev pub GivesRecords : Result (List LogEntry) BlockRefusal → Result (List LogEntry) BlockRefusal → Type 0
GivesRecords (Ok records) read = read ≡ Ok records
GivesRecords (Err refusal) read = RefusesAs refusal read

-- The records that reading gives begin at these bytes of the payload, the first at this LSN, or their refusal is told.
abbrev pub FindsStarts : ℕ → List ℕ → ℕ → List ℕ → Result (Unit {0}) BlockRefusal → Result (List LogEntry) BlockRefusal → Type 0
FindsStarts streams payload lsn starts (Ok done) read = (read ≡ Ok (records_at payload lsn starts)) × AreStarts streams payload lsn starts
FindsStarts streams payload lsn starts (Err refusal) read = RefusesAs refusal read
