-- What is on the disk, and what goes there. The records below one LSN are stable and no others; it is the start of the first
-- block that isn't written. Blocks are sealed one after the other, and sealed blocks wait until they are written.
use Rattle.std.specs.Prelude.{◌≡◌, ℕ, false, nat_lt, nat_le, if◌then◌else◌, List, [], ◌∷◌, ◌++◌, length, filter}
use Rattle.clfs_lsn.specs.Lsn.{lsn_number, container_of, offset_of}
use Rattle.clfs_lsn.specs.Place.{sealed}
use Rattle.clfs_lsn.specs.declared.place.Place.{Place}
use Rattle.clfs_lsn.specs.declared.entry.LogEntry.{LogEntry}
use Rattle.clfs_model.specs.declared.state.State.{State}
use Rattle.clfs_model.specs.Live.{hold}

-- the start of the open block, or of the next one
abbrev pub block_start : Place → ℕ
block_start place = lsn_number place.container place.offset 0

-- the first of some numbers, or the other one where there are none
abbrev pub first_or : ℕ → List ℕ → ℕ
first_or other [] = other
first_or other (n ∷ ns) = n

-- the LSN below which all records are stable, and no others
abbrev pub flushed : State → ℕ
flushed s = first_or (block_start s.place) s.waiting

-- Once as many blocks wait as there are write buffers, all are written at once.
abbrev pub kept_waiting : ℕ → List ℕ → List ℕ
kept_waiting buffers waiting = if nat_lt (length waiting) buffers then waiting else []

-- the state once the open block, where there is one, takes no more records
abbrev pub seal : State → State
seal s = if nat_lt 0 s.place.records
    then record s { waiting = kept_waiting s.buffers (s.waiting ++ block_start s.place ∷ []); place = sealed s.place }
    else s

-- A flush seals the open block and writes all that wait.
abbrev pub flush : State → State
flush s = record (seal s) { waiting = [] }

-- What is left of the state where all that isn't stable is lost: the stable records, and the place after them; no areas.
abbrev pub cut : State → State
cut s = record s {
  records = filter (λ (entry : LogEntry). nat_lt entry.lsn (flushed s)) s.records;
  place = record { container = container_of (flushed s); offset = offset_of (flushed s); used = 0; records = 0 };
  waiting = [];
  areas = [];
  broken = false;
}

-- the records in the hold's container and those above it; no reply can show the others
abbrev pub needed_records : State → List LogEntry
needed_records s = filter (λ (entry : LogEntry). nat_le (container_of (hold s)) (container_of entry.lsn)) s.records

-- Two states are the same but for records in containers below the hold's, which lies in one container in both.
pub record IsSame (s t : State) : Type 0 where
  pub hold : container_of (hold s) ≡ container_of (hold t)
  pub records : needed_records s ≡ needed_records t
  pub others : t ≡ record s { records = t.records }
