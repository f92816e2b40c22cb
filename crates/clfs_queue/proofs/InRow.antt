-- Records in a row.
use Rattle.clfs_queue.proofs.Words.{ℕ, ◌+◌, List, [], ◌∷◌, ◌++◌, length, subst, arith, FitsAt, LogEntry, AreInRow}

-- a record of a row is at its own LSN
pub row_at : (lsn : ℕ) (before behind : List LogEntry) (entry : LogEntry) → AreInRow lsn (before ++ entry ∷ behind)
    → FitsAt (lsn + length before) entry.stream entry
row_at lsn [] behind entry row = subst (λ (n : ℕ). FitsAt n entry.stream entry) (omega arith) row.0
row_at lsn (first ∷ before) behind entry row =
    subst (λ (n : ℕ). FitsAt n entry.stream entry) (omega arith) (row_at (lsn + 1) before behind entry row.1)

-- one more record at the end of a row
pub row_push : (lsn : ℕ) (entries : List LogEntry) (entry : LogEntry) → AreInRow lsn entries → FitsAt (lsn + length entries) entry.stream entry
    → AreInRow lsn (entries ++ entry ∷ [])
row_push lsn [] entry row fits = (subst (λ (n : ℕ). FitsAt n entry.stream entry) (omega arith) fits, tt)
row_push lsn (first ∷ entries) entry row fits =
    (row.0, row_push (lsn + 1) entries entry row.1 (subst (λ (n : ℕ). FitsAt n entry.stream entry) (omega arith) fits))
