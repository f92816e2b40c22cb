-- What a crash leaves of a table, and of the log that has it, while the table is served.
use Rattle.std.specs.Prelude.{◌≡◌, ◌⊎◌, ℕ, ◌<◌, ◌≤◌, Bool, true, ◌||◌, if◌then◌else◌, List, [], ◌∷◌, Result}
use Rattle.clfs_disk.specs.Files.{Files, Unchanged}
use Rattle.clfs_disk.specs.State.{DiskState, IsHonest, MayLeave}
use Rattle.clfs_model.specs.declared.state.State.{State}
use Rattle.clfs_cells.specs.declared.asked.TxnCall.{TxnCall}
use Rattle.clfs_cells.specs.declared.told.TxnReply.{TxnReply}
use Rattle.clfs_cells.specs.Stored.{Store}
use Rattle.clfs_cells.specs.Table.{table}
use Rattle.clfs_cells_laws.specs.Crashes.{IsSafe, is_answer}
use Rattle.clfs_txn.specs.Crashes.{HoldsTable}
use Rattle.clfs_txn.specs.UnderWay.{UnderWay, loading_of}
use Rattle.clfs_operations.specs.TableAnswered.{LineStep, asks_nothing, table_asked, under_asked}
use Rattle.clfs_operations.specs.Crashed.{Images}

-- the tables of which a crash leaves one, and what was asked last for which the log's calls were made
pub record Tables : Type 0 where
  pub before : List ℕ
  pub after : List ℕ
  pub under : UnderWay

-- no other than this one
abbrev pub alone : List ℕ → UnderWay → Tables
alone cells under = record { before = cells; after = cells; under = under }

-- A crash at any moment from one to another leaves files that stand for a log with one of two tables, which survives in one of these calls.
abbrev pub IsLeftTable : Images → ℕ → ℕ → Tables → Type 0
IsLeftTable images from to tables = (moment : ℕ) (image : Files) → from ≤ moment → moment ≤ to → images moment image
    → HoldsTable tables.before tables.after tables.under image

-- ---- lines

-- The disk isn't called for a line: it asks for a cell's value, or for nothing, or the log is broken.
abbrev pub is_uncalled : Store → Result TxnCall ℕ → Bool
is_uncalled s asked = s.log.broken || asks_nothing asked

-- the tables of which a crash leaves one while a line is answered: that from before the line and that with it; or those that it left before, if the disk isn't called
abbrev pub tables_under_way : Tables → Store → Result TxnCall ℕ → Tables
tables_under_way was s asked =
    if is_uncalled s asked then was else record { before = table s.log; after = table_asked s asked; under = under_asked s asked }

-- and once it is answered: the table with the line alone, or, after a refusal, both
abbrev pub tables_answered : Tables → Store → Result TxnCall ℕ → TxnReply → Tables
tables_answered was s asked reply = if is_uncalled s asked then was
    else (if is_answer reply then alone (table_asked s asked) (under_asked s asked)
    else record { before = table s.log; after = table_asked s asked; under = under_asked s asked })

-- Lines are answered one after the other by a store, with a moment after each, and a crash leaves one of the tables of the line that is under way, and from
-- the reply on of those once it is answered.
abbrev pub IsLeftByLines : Bool → Images → ℕ → ℕ → Tables → Store → List (Result TxnCall ℕ) → List TxnReply → Store → Type 0
IsLeftByLines told images from to was s [] [] t = (t ≡ s) × (from ≡ to)
IsLeftByLines told images from to was s (asked ∷ lines) (reply ∷ answers) t =
    (next : ℕ) × ((from ≤ next) × (IsLeftTable images from next (tables_under_way was s asked)
    × (IsLeftTable images next next (tables_answered was s asked reply)
    × ((mid : Store) × (LineStep told s asked reply mid × IsLeftByLines told images next to (tables_answered was s asked reply) mid lines answers t)))))
IsLeftByLines told images from to was s _ _ t = ⊥

-- So it is while lines are answered, from a disk of which a crash leaves one of two tables, if nothing counts that isn't on the disk.
abbrev pub CrashLeavesLines : Store → DiskState → List (Result TxnCall ℕ) → List TxnReply → Store → DiskState → Type 0
CrashLeavesLines s old lines answers t new = (s.log.broken ≡ true) ⊎ IsSafe s.log s.memory.stream → IsHonest old → (was : Tables)
    → IsLeftTable old.image_at old.clock old.clock was
    → IsLeftByLines old.nature.tells_contents new.image_at old.clock new.clock was s lines answers t

-- ---- serving

-- A log is opened on a disk, and then its table is loaded. Until the log is open a crash leaves what it would have left at first; from then on, until the table is
-- loaded, the log's table.
pub record IsLoadingLeft (old new : DiskState) (first : State) (loaded : ℕ) : Type 0 where
  pub opened : ℕ
  pub later : old.clock ≤ opened
  pub on : opened ≤ loaded
  pub before : (moment : ℕ) (image : Files) → old.clock ≤ moment → moment < opened → new.image_at moment image
      → (left : Files) × (MayLeave old left × Unchanged left image)
  pub loading : IsLeftTable new.image_at opened loaded (alone (table first) (loading_of first 1))

-- And then lines are answered.
pub record IsServingLeft (old new : DiskState) (first : State) (store : Store) (lines : List (Result TxnCall ℕ)) (answers : List TxnReply) (last : Store) : Type 0 where
  pub loaded : ℕ
  pub loading : IsLoadingLeft old new first loaded
  pub answered : IsLeftByLines old.nature.tells_contents new.image_at loaded new.clock (alone (table first) (loading_of first 1)) store lines answers last
