-- A table that memory ran out for before it was loaded.
use Rattle.std.proofs.Common.{◌≡◌, ◌⊎◌, ℕ, refl, List, inl, inr, arith}
use Rattle.std.specs.Prelude.{Option}
use Rattle.std.proofs.KnownBytes.{Appends-nil}
use Rattle.clfs_disk.specs.State.{DiskState}
use Rattle.clfs_operations.specs.Race.{LeavesFiles}
use Rattle.clfs_operations.specs.Txn.{EndsTxn}

-- a status of a table whose source was read
not_unread : (status : ℕ) → status ≡ 5 → (status ≡ 4) ⊎ ((status ≡ 6) ⊎ ((status ≡ 9) ⊎ (status ≡ 10))) → ⊥
not_unread status is (inl e) = omega (arith, is, e)
not_unread status is (inr (inl e)) = omega (arith, is, e)
not_unread status is (inr (inr (inl e))) = omega (arith, is, e)
not_unread status is (inr (inr (inr e))) = omega (arith, is, e)

pub table_ends : (disk : DiskState) (left written : Option (List ℕ)) (source sink : ℕ) → LeavesFiles disk disk
    → EndsTxn 5 disk disk left left written written source source sink sink
table_ends disk left written source sink alone = record {
  statuses = inl (inr (inr (inr (inl refl))));
  done = λ e. absurd (omega (arith, e));
  source_fault = λ e. absurd (omega (arith, e));
  source_fault_answers = λ e. absurd (omega (arith, e));
  sink_fault = λ e. absurd (omega (arith, e));
  sink_fault_front = λ e. absurd (omega (arith, e));
  disk_fault = λ e. absurd (omega (arith, e));
  disk_fault_line = λ e. absurd (omega (arith, e));
  no_memory = λ _. inl (record { same = alone.same; time = alone.time; unread = refl; silence = Appends-nil written });
  no_log = λ e. absurd (omega (arith, e));
  too_long = λ e. absurd (omega (arith, e));
  no_table = λ e. absurd (omega (arith, e));
  refused = λ e. absurd (omega (arith, e));
  unread = λ e. absurd (not_unread 5 refl e);
  source_count = omega arith;
  sink_count = omega arith;
}
