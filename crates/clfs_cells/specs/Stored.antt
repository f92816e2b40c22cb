-- What a store of a table keeps beside its log: the cells as they are now, and of each open transaction the sets that it made. The log has all
-- of it but what the next call needs at once: where a transaction's newest record is, and which of its sets stand.
use Rattle.std.specs.Prelude.{ℕ, ◌+◌, ◌*◌, Bool, true, false, not, ◌&&◌, ◌==◌, if◌then◌else◌, List, [], ◌∷◌, ◌++◌, length, filter, find, reverse, Option, slice_get, slice_set}
use Rattle.std.specs.List.{list_any}
use Rattle.std.specs.Option.{option_map_or}
use Rattle.clfs_lsn.specs.Lsn.{null_lsn}
use Rattle.clfs_model.specs.declared.state.State.{State}
use Rattle.clfs_model.specs.State.{change_first}
use Rattle.clfs_cells.specs.declared.row.Change.{Change}
use Rattle.clfs_cells.specs.declared.begun.Made.{Made}

-- an open transaction: its number, the sets for which it was begun, those that it made, in order, and its newest record, or null
pub record Transaction : Type 0 where
  pub number : ℕ
  pub changes : ℕ
  pub made : List Made
  pub last : ℕ

-- what a store keeps: the client and its area of the log, the stream, the cells, the open transactions in the order of their beginning, and the
-- last number that one was given
pub record Memory : Type 0 where
  pub client : ℕ
  pub area : ℕ
  pub stream : ℕ
  pub cells : List ℕ
  pub transactions : List Transaction
  pub last : ℕ

-- a store: its log, and what it keeps
pub record Store : Type 0 where
  pub log : State
  pub memory : Memory

-- the sets of a transaction that stand, the newest first
abbrev pub standing : Transaction → List Made
standing t = reverse (filter (λ (made : Made). not made.undone) t.made)

-- the newest set that stands, or null where none does
abbrev pub newest_standing : Transaction → ℕ
newest_standing t = option_map_or (λ (made : Made). made.lsn) (slice_get (standing t) 0) null_lsn

-- the records that a transaction appends at most: its sets, their compensations, and its end
abbrev pub most_records : ℕ → ℕ
most_records changes = 2 * changes + 1

-- the records that it appended: its sets, and the compensations of those that were taken back
abbrev pub records_made : Transaction → ℕ
records_made t = length t.made + length (filter (λ (made : Made). made.undone) t.made)

-- a transaction has this number
abbrev pub is_numbered : ℕ → Transaction → Bool
is_numbered number t = t.number == number

-- the open transaction of a number
abbrev pub transaction : Memory → ℕ → Option Transaction
transaction memory number = find (is_numbered number) memory.transactions

-- a transaction has made a set of the cell, one that was taken back too
abbrev pub holds : ℕ → Transaction → Bool
holds cell t = list_any (λ (made : Made). made.change.cell == cell) t.made

-- a transaction is another one than this, and has made a set of the cell
abbrev pub is_holder : ℕ → ℕ → Transaction → Bool
is_holder number cell t = not (t.number == number) && holds cell t

-- the open transaction other than this one that holds the cell
abbrev pub holder : Memory → ℕ → ℕ → Option Transaction
holder memory number cell = find (is_holder number cell) memory.transactions

-- one open transaction changed
abbrev pub with_transaction : ℕ → (Transaction → Transaction) → Memory → Memory
with_transaction number change memory =
    record memory { transactions = change_first (is_numbered number) change memory.transactions }

-- a transaction that begins, with the next number
abbrev pub with_begun : ℕ → Memory → Memory
with_begun changes memory = record memory {
  transactions = memory.transactions ++ record { number = memory.last + 1; changes = changes; made = []; last = null_lsn } ∷ [];
  last = memory.last + 1;
}

-- a transaction's set of a cell, whose record is at this LSN
abbrev pub with_set : Transaction → Change → ℕ → Memory → Memory
with_set t change lsn memory =
    let made : Made = record { lsn = lsn; undo_next = newest_standing t; change = change; undone = false } in
    let memory = with_transaction t.number (λ (t : Transaction). record t { made = t.made ++ made ∷ []; last = lsn }) memory in
    record memory { cells = slice_set memory.cells change.cell change.new }

-- a set has its record at this LSN
abbrev pub is_at : ℕ → Made → Bool
is_at lsn made = made.lsn == lsn

-- a transaction with its set at this LSN taken back, by a record at another one
abbrev pub with_one_undone : ℕ → ℕ → Transaction → Transaction
with_one_undone lsn at t = record t { made = change_first (is_at lsn) (λ (made : Made). record made { undone = true }) t.made; last = at }

-- a transaction's set taken back, by a compensation whose record is at this LSN
abbrev pub with_undone : Transaction → Made → ℕ → Memory → Memory
with_undone t made lsn memory =
    let memory = with_transaction t.number (with_one_undone made.lsn lsn) memory in
    record memory { cells = slice_set memory.cells made.change.cell made.change.old }

-- the elements without the first that passes
abbrev pub without_first : {A : Type 0} → (A → Bool) → List A → List A
without_first p [] = []
without_first p (x ∷ xs) = if p x then xs else x ∷ without_first p xs

-- without an open transaction, which has ended
abbrev pub without_transaction : ℕ → Memory → Memory
without_transaction number memory = record memory { transactions = without_first (is_numbered number) memory.transactions }
