-- A restart area that was put last, and the bases of streams after it.
use Rattle.std.specs.Prelude.{◌≡◌, ℕ, ◌≤◌, ◌==◌, ◌++◌, false, if◌then◌else◌, All, List, [], ◌∷◌}
use Rattle.clfs_lsn.specs.Lsn.{null_lsn}
use Rattle.clfs_lsn.specs.declared.entry.LogEntry.{LogEntry}
use Rattle.clfs_model.specs.declared.state.State.{State}
use Rattle.clfs_lsn.specs.declared.stream.Stream.{Stream}
use Rattle.clfs_lsn.specs.Streams.{set_base}
use Rattle.clfs_model.specs.Answers.{rebased}
use Rattle.clfs_model.specs.Flush.{flush}
use Rattle.clfs_model.specs.State.{base_of}
use Rattle.clfs_model.specs.Storable.{IsStorable}
use Rattle.clfs_model.specs.Valid.{IsValid}
use Rattle.clfs_tables.specs.Tables.{IsNumber}
use Rattle.clfs_manager.specs.Memory.{unflushed}

-- Of the records that wait the last one is of this stream, with this new base, which is null where it moves none. The others move no base.
pub record EndsInRestart (s : State) (stream base : ℕ) : Type 0 where
  pub others : List LogEntry
  pub entry : LogEntry
  pub records : unflushed s ≡ others ++ entry ∷ []
  pub still : All (λ (other : LogEntry). other.new_base ≡ 0) others
  pub own : entry.stream ≡ stream
  pub moves : entry.new_base ≡ base

-- A log that ends in a restart area which isn't on the disk yet may go there, and then the base moves up, where there is a new one.
pub record MayFinish (s : State) (stream base : ℕ) : Type 0 where
  pub last : EndsInRestart s stream base
  pub there : IsNumber s.streams stream
  pub up : (base == null_lsn) ≡ false → base_of s stream ≤ base
  pub valid : IsValid (rebased stream base (flush s))
  pub storable : IsStorable (rebased stream base (flush s))

-- the streams with the base of one moved, where there is a new one
abbrev pub rebased_streams : ℕ → ℕ → List Stream → List Stream
rebased_streams stream base streams = if base == null_lsn then streams else set_base stream base streams
