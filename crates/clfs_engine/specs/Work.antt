-- What the threads of a crew make of the area that they share, and of their permits.
use Rattle.std.specs.Prelude.{◌≡◌, ℕ, ◌+◌, ◌*◌, true, false, List, length}
use Rattle.clfs_lsn.specs.Lsn.{null_lsn}
use Rattle.clfs_model.specs.declared.call.Draft.{Draft}
use Rattle.clfs_model.specs.declared.journal.Entry.{Entry}
use Rattle.clfs_shared.specs.Reached.{is_calm}
use Rattle.clfs_shared.specs.Sessions.{SessionState, SharedState, IsOf, own_entries}
use Rattle.clfs_area.specs.Areas.{AreaBooks, PermitState, permit_of, held_by_own}
use Rattle.clfs_engine.specs.Crew.{is_any_refused, placed_in}

-- ---- the log and the records

-- no call of this log is answered by a fault, by damage, or that the log is broken
pub record NeverFails (log : SharedState) : Type 0 where
  pub calm : is_calm log.opening ≡ true
  pub unbroken : log.opening.state.broken ≡ false

-- the bytes of a record of a crew; a record of so many needs one sector
abbrev pub record_bytes : ℕ
record_bytes = 8

-- a record of a crew: eight bytes, and no links
pub record IsCrewRecord (draft : Draft) : Type 0 where
  pub bytes : length draft.bytes ≡ record_bytes
  pub previous : draft.previous ≡ null_lsn
  pub undo_next : draft.undo_next ≡ null_lsn

-- ---- the area under the lock

-- of these entries none was refused, and so many are appends that were answered with an LSN
pub record HasPlaced (entries : List Entry) (records : ℕ) : Type 0 where
  pub none_refused : is_any_refused entries ≡ false
  pub placed : placed_in entries ≡ records

-- The area is one of this log for records of a crew. Of its session's own entries none was refused, and the appends among them are those that its
-- book counts.
pub record IsAtWork (log : SharedState) (area : AreaBooks) : Type 0 where
  pub of : IsOf log area.session
  pub entries : HasPlaced (own_entries area.session) area.records
  pub largest : area.largest ≡ record_bytes

-- ---- workers and their permits

-- a worker: its permit, and the appends that are said to lack memory
pub record WorkerState : Type 0 where
  pub permit : PermitState
  pub lacked : ℕ

-- a worker of these parts
abbrev pub worker_of : PermitState → ℕ → WorkerState
worker_of permit lacked = record { permit = permit; lacked = lacked }

-- So many appends are told of a permit: those that it counts as records and those that are said to lack memory are as many together. A record takes a
-- sector of the permit.
pub record HasAppended (old new : PermitState) (count lacked : ℕ) : Type 0 where
  pub records : new.records + lacked ≡ old.records + count
  pub sectors : new.sectors + count ≡ old.sectors + lacked
  pub parts : new.parts ≡ old.parts

-- a worker that begins: its permit has one part and the sectors for so many records
abbrev pub ready : ℕ → WorkerState
ready count = worker_of (permit_of count 0 1) 0

-- A worker that is done: its records and the appends that are said to lack memory are as many together as its parts stand for, and its permit still has
-- a sector for each of the latter.
pub record HasWorked (count : ℕ) (worker : WorkerState) : Type 0 where
  pub all : worker.permit.records + worker.lacked ≡ worker.permit.parts * count
  pub left : worker.permit.sectors ≡ worker.lacked

-- ---- the end

-- The area of a crew ended: of its session's own entries none was refused, the appends among them are these records, the area holds so many sectors by
-- them, and both are all records that were asked for.
pub record IsCrewed (log : SharedState) (threads count : ℕ) (session : SessionState) (area held records : ℕ) : Type 0 where
  pub of : IsOf log session
  pub entries : HasPlaced (own_entries session) records
  pub holds : held_by_own session area ≡ held
  pub all : records + held ≡ threads * count
