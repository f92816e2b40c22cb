-- What a queue shows: where its log goes on, and the records that aren't on the disk yet. They lie in sealed blocks, which wait to be
-- written, and in the open block.
use Rattle.std.specs.Prelude.{◌≡◌, ◌⊎◌, ℕ, ◌+◌, ◌≤◌, ◌==◌, true, nat_lt, if◌then◌else◌, List, [], ◌∷◌, ◌++◌, length, find, Option}
use Rattle.std.specs.Option.{option_map}
use Rattle.clfs_lsn.specs.Lsn.{lsn_number}
use Rattle.clfs_lsn.specs.Place.{IsClosed, joins, begins_here, place_after, sealed}
use Rattle.clfs_lsn.specs.declared.shape.Shape.{Shape}
use Rattle.clfs_lsn.specs.declared.place.Place.{Place}
use Rattle.clfs_lsn.specs.declared.entry.LogEntry.{LogEntry}
use Rattle.clfs_record.specs.Fields.{placed_record}
use Rattle.clfs_record.specs.declared.fields.Fields.{Fields}
use Rattle.clfs_queue.specs.declared.placing.Placing.{Placing}
use Rattle.clfs_queue.specs.declared.placing.Placing.TheVariants.{Joins, BeginsBlock, BeginsContainer}

-- How large blocks and containers are, the number of write buffers, and the log's place; the LSNs at which the waiting blocks begin, and
-- the records of these blocks and of the open one, both in order.
pub record Queued : Type 0 where
  pub shape : Shape
  pub buffers : ℕ
  pub place : Place
  pub waiting : List ℕ
  pub records : List LogEntry

-- which case of the rule for places comes for a record of n bytes
abbrev pub placing : Shape → Place → ℕ → Placing
placing shape place n = if joins shape place n then Joins else if begins_here shape place n then BeginsBlock else BeginsContainer

-- the LSN of the next record, of n bytes
abbrev pub next_lsn : Queued → ℕ → ℕ
next_lsn q n = (place_after q.shape q.place n).0

-- There is room for a record of n bytes: it joins the open block; or it begins a block in this container where none is open, and no
-- more blocks wait than there are write buffers.
abbrev pub HasRoomFor : Queued → ℕ → Type 0
HasRoomFor q n =
    (joins q.shape q.place n ≡ true) ⊎ ((begins_here q.shape q.place n ≡ true) × (IsClosed q.place × (length q.waiting ≤ q.buffers)))

-- the queue with one more record, at the place that the rule gives it
abbrev pub pushed : Queued → Fields → List ℕ → Queued
pushed q fields bytes = record q {
  place = (place_after q.shape q.place (length bytes)).1;
  records = q.records ++ placed_record (next_lsn q (length bytes)) fields bytes ∷ [];
}

-- the queue once the open block, where there is one, takes no more records: it waits
abbrev pub seal : Queued → Queued
seal q =
    if nat_lt 0 q.place.records
    then record q { waiting = q.waiting ++ lsn_number q.place.container q.place.offset 0 ∷ []; place = sealed q.place }
    else q

-- the place at the first byte of the next container
abbrev pub turned : Place → Place
turned place = record { container = place.container + 1; offset = 0; used = 0; records = 0 }

-- the data of the record at an LSN, where there is one
abbrev pub data_at : ℕ → List LogEntry → Option (List ℕ)
data_at lsn records = option_map (λ (entry : LogEntry). entry.bytes) (find (λ (entry : LogEntry). entry.lsn == lsn) records)
