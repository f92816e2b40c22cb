-- The records and the restart areas of a table, byte by byte. All numbers are little-endian.
use Rattle.std.specs.Prelude.{◌≡◌, ℕ, zero, suc, ◌^◌, ◌<◌, ◌≤◌, Bool, ◌&&◌, ◌==◌, nat_lt, if◌then◌else◌, List, [], ◌∷◌, ◌++◌, length, drop, replicate, slice_index, Option, Some, None}
use Rattle.std.specs.List.{flat_map}
use Rattle.std.specs.Option.{option_map}
use Rattle.byteorder.specs.Endian.{little_bytes, little_number}
use Rattle.clfs_cells.specs.declared.row.Change.{Change}
use Rattle.clfs_cells.specs.declared.row.Action.{Action}
use Rattle.clfs_cells.specs.declared.row.Action.TheVariants.{Set, Compensation, Commit, RolledBack}
use Rattle.clfs_cells.specs.declared.row.TxnRecord.{TxnRecord}
use Rattle.clfs_cells.specs.declared.checkpoint.Checkpoint.{Checkpoint}

-- the cells of a table
abbrev pub cell_count : ℕ
cell_count = 32

-- a record's tag
abbrev pub tag_of : Action → ℕ
tag_of (Set change) = 1
tag_of (Compensation change) = 2
tag_of Commit = 3
tag_of RolledBack = 4

-- a change of zeros, as an end's record has it
abbrev pub blank_change : Change
blank_change = record { cell = 0; old = 0; new = 0 }

-- the change in a record
abbrev pub change_in : Action → Change
change_in (Set change) = change
change_in (Compensation change) = change
change_in Commit = blank_change
change_in RolledBack = blank_change

-- a record's data: tag (1 byte), a zero (1), cell (2), transaction (4), the cell's value before (8) and after (8)
abbrev pub txn_bytes : TxnRecord → List ℕ
txn_bytes r =
    let change = change_in r.action in
    tag_of r.action ∷ 0 ∷ (little_bytes 2 change.cell ++ (little_bytes 4 r.txn ++ (little_bytes 8 change.old ++ little_bytes 8 change.new)))

-- the fields of a change in a record's data
abbrev pub change_at : List ℕ → Change
change_at bytes = record { cell = little_number 2 (drop 2 bytes); old = little_number 8 (drop 8 bytes); new = little_number 8 (drop 16 bytes) }

-- all fields of the change are zero
abbrev pub is_blank : Change → Bool
is_blank change = (change.cell == 0) && (change.old == 0) && (change.new == 0)

-- A set and a compensation are of a cell that there is, and an end changes nothing. Other tags are of no action.
abbrev pub action_of : ℕ → Change → Option Action
action_of tag change =
    if (tag == 1) && nat_lt change.cell cell_count then Some (Set change)
    else if (tag == 2) && nat_lt change.cell cell_count then Some (Compensation change)
    else if (tag == 3) && is_blank change then Some Commit
    else if (tag == 4) && is_blank change then Some RolledBack
    else None

-- an action of the transaction of this number
abbrev pub txn_record : ℕ → Action → TxnRecord
txn_record txn action = record { txn = txn; action = action }

-- The record that data spell. There is none where they have another length, a byte other than 0 after the tag, or the transaction 0, or
-- spell no action.
abbrev pub txn_record_of : List ℕ → Option TxnRecord
txn_record_of bytes =
    let txn = little_number 4 (drop 4 bytes) in
    if (length bytes == 24) && (slice_index bytes 1 == 0) && nat_lt 0 txn
    then option_map (txn_record txn) (action_of (slice_index bytes 0) (change_at bytes))
    else None

-- the cells before anything is set
abbrev pub blank_cells : List ℕ
blank_cells = replicate cell_count 0

-- cells of zeros, before any transaction
abbrev pub blank_checkpoint : Checkpoint
blank_checkpoint = record { cells = blank_cells; last = 0 }

-- a restart area's data: the cells in order (8 bytes each), and the last number of a transaction (4)
abbrev pub checkpoint_bytes : Checkpoint → List ℕ
checkpoint_bytes c = flat_map (little_bytes 8) c.cells ++ little_bytes 4 c.last

-- so many numbers of 8 bytes each
abbrev pub numbers_in : ℕ → List ℕ → List ℕ
numbers_in zero bytes = []
numbers_in (suc more) bytes = little_number 8 bytes ∷ numbers_in more (drop 8 bytes)

-- The restart area that data spell. There is none where they have another length.
abbrev pub checkpoint_of : List ℕ → Option Checkpoint
checkpoint_of bytes =
    if length bytes == 260 then Some (record { cells = numbers_in cell_count bytes; last = little_number 4 (drop 256 bytes) }) else None

-- a change of a cell that there is, in numbers of its fields' bytes
pub record IsChange (change : Change) : Type 0 where
  pub cell : change.cell < cell_count
  pub old : change.old < 2 ^ 64
  pub new : change.new < 2 ^ 64

-- what an action can be
abbrev pub IsAction : Action → Type 0
IsAction (Set change) = IsChange change
IsAction (Compensation change) = IsChange change
IsAction Commit = Unit {0}
IsAction RolledBack = Unit {0}

-- a record that a table can have
pub record IsTxnRecord (r : TxnRecord) : Type 0 where
  pub some : 1 ≤ r.txn
  pub txn : r.txn < 2 ^ 32
  pub action : IsAction r.action

-- a restart area that a table can have: all cells, each of a number of 8 bytes
pub record IsCheckpoint (c : Checkpoint) : Type 0 where
  pub cells : length c.cells ≡ cell_count
  pub values : (cell : ℕ) → slice_index c.cells cell < 2 ^ 64
  pub last : c.last < 2 ^ 32
