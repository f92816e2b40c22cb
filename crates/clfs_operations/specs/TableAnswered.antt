-- How a store of a table answers the lines of a script.
use Rattle.std.specs.Prelude.{◌≡◌, ◌⊎◌, ℕ, Bool, true, false, List, Result, Ok, Err}
use Rattle.clfs_disk.specs.Files.{Files}
use Rattle.clfs_disk.specs.State.{DiskState, TellsContents}
use Rattle.clfs_model.specs.declared.refusal.Refusal.TheVariants as log_refusals
use Rattle.clfs_model.specs.Lines.{without_return}
use Rattle.clfs_manager.specs.Written.{WritesDisk}
use Rattle.clfs_cells.specs.declared.asked.TxnCall.{TxnCall}
use Rattle.clfs_cells.specs.declared.asked.TxnCall.TheVariants as asked
use Rattle.clfs_cells.specs.declared.told.TxnRefusal.TheVariants as refusals
use Rattle.clfs_cells.specs.declared.told.TxnReply.{TxnReply}
use Rattle.clfs_cells.specs.declared.told.TxnReply.TheVariants as replies
use Rattle.clfs_cells.specs.Calls.{TxnStep}
use Rattle.clfs_cells.specs.Lines.{txn_call_in, txn_reply_line, bad_line_reply}
use Rattle.clfs_cells.specs.Stored.{Store}
use Rattle.clfs_cells.specs.Table.{table}
use Rattle.clfs_cells_laws.specs.Breaking.{tells_table_damage}
use Rattle.clfs_cells_laws.specs.Crashes.{EndsSafe, IsSafe, is_answer, table_once}
use Rattle.clfs_txn.specs.Crashes.{CrashLeavesTable}
use Rattle.clfs_txn.specs.UnderWay.{UnderWay, asking, nothing}

-- the reply that tells a fault of the disk
abbrev pub fault_reply : TxnReply
fault_reply = replies.Refused (refusals.Log log_refusals.DiskFault)

-- What a line asks for is a step of the store; a line that asks for nothing leaves it as it is.
abbrev pub LineStep : Bool → Store → Result TxnCall ℕ → TxnReply → Store → Type 0
LineStep told s (Ok call) reply t = TxnStep told s call reply t
LineStep told s (Err at) reply t = (reply ≡ bad_line_reply at) × (t ≡ s)

-- No call was made on the disk.
pub record IsUncalled (old new : DiskState) : Type 0 where
  pub clock : new.clock ≡ old.clock
  pub images : (moment : ℕ) (image : Files) → new.image_at moment image → old.image_at moment image

-- a line asks the disk for nothing: it asks for a cell's value, or for nothing at all
abbrev pub asks_nothing : Result TxnCall ℕ → Bool
asks_nothing (Ok (asked.Get cell)) = true
asks_nothing (Ok call) = false
asks_nothing (Err at) = true

-- the table once what a line asks for is answered
abbrev pub table_asked : Store → Result TxnCall ℕ → List ℕ
table_asked s (Ok call) = table_once s call
table_asked s (Err at) = table s.log

-- what is under way while it is answered
abbrev pub under_asked : Store → Result TxnCall ℕ → UnderWay
under_asked s (Ok call) = asking s call
under_asked s (Err at) = nothing s.log

-- What a crash leaves while a line is answered by a store whose log isn't broken: the table from before, or that once it is answered; the latter from the answer
-- on. Of the log it leaves what survives in one of the log's calls that are made for it. A line that asks for nothing leaves disk and store as they are.
pub record LeavesAsked (s : Store) (old : DiskState) (asked : Result TxnCall ℕ) (reply : TxnReply) (t : Store) (new : DiskState) : Type 0 where
  pub nothing : asks_nothing asked ≡ true → IsUncalled old new
  pub moments : asks_nothing asked ≡ false → CrashLeavesTable (table s.log) (table_asked s asked) (under_asked s asked) old new
  pub lasts : asks_nothing asked ≡ false → is_answer reply ≡ true → CrashLeavesTable (table_asked s asked) (table_asked s asked) (under_asked s asked) new new
  pub kept : TellsContents old → (t.log.broken ≡ true) ⊎ EndsSafe (table s.log) (table_asked s asked) t.memory.stream reply t.log

-- What a line asks for was answered. A fault is told only if the disk failed, damage only over a disk that doesn't tell what its files hold, and a store of
-- a broken log makes no call on the disk.
pub record AnswersAsked (s : Store) (old : DiskState) (asked : Result TxnCall ℕ) (reply : TxnReply) (t : Store) (new : DiskState) : Type 0 where
  pub step : LineStep old.nature.tells_contents s asked reply t
  pub writes : WritesDisk (reply ≡ fault_reply) old new
  pub damage : TellsContents old → tells_table_damage reply ≡ false
  pub stopped : s.log.broken ≡ true → IsUncalled old new
  pub crash : s.log.broken ≡ false → IsSafe s.log s.memory.stream → LeavesAsked s old asked reply t new

-- One line was answered, and its reply is this text.
pub record AnswersTable (s : Store) (old : DiskState) (line text : List ℕ) (t : Store) (new : DiskState) : Type 0 where
  pub reply : TxnReply
  pub answered : AnswersAsked s old (txn_call_in (without_return line)) reply t new
  pub is : text ≡ txn_reply_line reply
