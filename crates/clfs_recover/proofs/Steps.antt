-- The walk step by step: what is gathered so far, before what is left gives what all gives.
use Rattle.clfs_recover.proofs.Words.{◌≡◌, ℕ, List, ◌++◌, Result, LogEntry, Row, HasTaken}
use Rattle.clfs_block.specs.RecordLaws.{behind}

-- A gatherer has taken some records after those of before, and with them what is left gives what all gives.
abbrev pub Reached : {E : Type 0} → (List LogEntry → Type 0) → List Row → List ℕ → List LogEntry → Result (List LogEntry) E → Result (List LogEntry) E → Type 0
Reached has rows bases before rest all = (entries : List LogEntry) × (behind entries rest ≡ all) × HasTaken has rows bases (before ++ entries)
