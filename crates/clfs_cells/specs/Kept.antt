-- What contracts see of an open transaction, and of what a store keeps.
use Rattle.std.specs.Prelude.{◌≡◌, ◌≤◌, ◌==◌, ℕ, List, length, map, take}
use Rattle.std.specs.HashSet.{HashSet, contains_by}
use Rattle.clfs_cells.specs.declared.memory.Memory.TheInside.{Inside}
use Rattle.clfs_cells.specs.declared.begun.Transaction.{Transaction as Code}
use Rattle.clfs_cells.specs.declared.row.TxnRecord.{TxnRecord}
use Rattle.clfs_cells.specs.Stored.{Transaction, Memory}
use Rattle.clfs_cells.specs.Table.{is_committed}

-- the sets that it made are the first of those for which it has room
abbrev pub transaction_of : Code → Transaction
transaction_of t = record { number = t.number; changes = t.changes; made = take t.count t.sets; last = t.last }

-- what a store keeps
abbrev pub memory_of : Inside → Memory
memory_of m = record {
  client = m.client;
  area = m.area;
  stream = m.stream;
  cells = m.cells;
  transactions = map transaction_of (take m.count m.transactions.items);
  last = m.last;
}

-- a set has the transactions that have a commit among these records, and no other
abbrev pub KnowsCommits : {S : Type 0} → List TxnRecord → HashSet ℕ S → Type 0
KnowsCommits records set = (txn : ℕ) → contains_by (λ other. txn == other) set ≡ is_committed records txn

-- it has room for as many transactions as can be open
pub record HasRoom (m : Inside) : Type 0 where
  pub room : length m.transactions.items ≡ 8
  pub few : m.count ≤ 8
