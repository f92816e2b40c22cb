-- How a log on a disk took the calls of a race.
use Rattle.std.specs.Prelude.{◌≡◌, ℕ, Bool, true, false, List, ◌++◌, map, All, Contains}
use Rattle.std.specs.List.{list_any}
use mathlib.Core.List.{IsPrefix}
use Rattle.clfs_disk.specs.State.{DiskState, TellsContents, IsHonest, IsSteady, IsSettled, Rises}
use Rattle.clfs_model.specs.declared.journal.Entry.{Entry}
use Rattle.clfs_model.specs.declared.state.State.{State}
use Rattle.clfs_model.specs.Flush.{cut}
use Rattle.clfs_model.specs.Journals.{ClientScript, IsLegal, IsShuffle, mine}
use Rattle.clfs_model.specs.Storable.{IsStorable}
use Rattle.clfs_model.specs.Valid.{IsValid}
use Rattle.clfs_recover.specs.Files.{StandsFor, AreWholeFiles}
use Rattle.clfs_manager.specs.Reopening.{HoldsFlushed}
use Rattle.clfs_shared.specs.Journal.{has_fault, has_damage, EntriesTellPlaces}
use Rattle.clfs_race.specs.Scripts.{race_requests, scripts_of, bad_text, journal_text}
use Rattle.clfs_operations.specs.Crashed.{IsLeftByJournal}
use Rattle.clfs_operations.specs.Told.{tells_broken}
use Rattle.clfs_operations.specs.Made.{calls_of}

-- some entry tells that the log is broken
abbrev pub is_any_broken : List Entry → Bool
is_any_broken entries = list_any (λ (entry : Entry). tells_broken entry.reply) entries

-- The log on a disk was opened with so many write buffers, it took the calls of this journal, and it was closed.
pub record HasTaken (buffers : ℕ) (old new : DiskState) (journal : List Entry) : Type 0 where
  pub first : State
  pub last : State
  -- it begins at the state for which the files stand; over a disk that doesn't tell what its files hold, at some state that files can stand for
  pub stands : TellsContents old → StandsFor old.files first
  pub buffers_are : first.buffers ≡ buffers
  pub valid : IsValid first
  pub storable : IsStorable first
  -- no client has an area then, so nothing is reserved, and nothing waits to be written
  pub stable : cut first ≡ first
  pub begins : first.broken ≡ false
  -- the journal is one step of the log machine after the other
  pub legal : IsLegal old.nature.tells_contents journal first last
  -- a call is answered that the disk failed only if it did, and damage only over a disk that doesn't tell what its files hold
  pub cause : has_fault journal ≡ true → Rises old.faults new.faults
  pub damage : TellsContents old → has_damage journal ≡ false
  -- and then at its place: of the block of the record to which the call comes, some bytes fail there
  pub places : EntriesTellPlaces old.nature.tells_contents first journal last
  -- the log is broken only by these
  pub unbroken : TellsContents old → has_fault journal ≡ false → is_any_broken journal ≡ false
  -- files at full length stay so, and no fault comes over a steady disk that has such files
  pub whole : TellsContents old → has_fault journal ≡ false → AreWholeFiles old.files → AreWholeFiles new.files
  pub steady : IsSteady old → TellsContents old → AreWholeFiles old.files → has_fault journal ≡ false
  -- where no call is answered that the disk failed, the files hold the flushed part of the last state, and nothing is pending
  pub files : TellsContents old → has_fault journal ≡ false → HoldsFlushed new.files last
  pub settled : IsHonest old → has_fault journal ≡ false → IsSettled new
  -- a crash at each moment left what survives a call after a front of the journal
  pub crash : IsHonest old → IsLeftByJournal old new first journal last

-- Lines were answered by a race, and this text is the replies: those to the lines that ask for nothing, and then those of one journal, in which each
-- client's calls are its lines in order, each once.
pub record IsRaced (buffers : ℕ) (old new : DiskState) (lines : List (List ℕ)) (text : List ℕ) : Type 0 where
  pub journal : List Entry
  pub taken : HasTaken buffers old new journal
  pub shuffle : IsShuffle journal (scripts_of (race_requests lines))
  pub is : text ≡ bad_text (race_requests lines) ++ journal_text journal

-- A journal shuffles fronts of scripts: of each client it has some calls of its lines, the first ones in order, and of no other client any.
pub record IsShuffleOfFronts (journal : List Entry) (scripts : List ClientScript) : Type 0 where
  pub each : All (λ (script : ClientScript). IsPrefix (calls_of (mine journal script.client)) script.calls) scripts
  pub none_else : All (λ (entry : Entry). Contains (map (λ (script : ClientScript). script.client) scripts) entry.client) journal

-- Of lines the first ones of each client were done.
pub record IsRacedInPart (buffers : ℕ) (old new : DiskState) (lines : List (List ℕ)) : Type 0 where
  pub journal : List Entry
  pub taken : HasTaken buffers old new journal
  pub fronts : IsShuffleOfFronts journal (scripts_of (race_requests lines))
