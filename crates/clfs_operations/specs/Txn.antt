-- How a table's script is served, and how that ends.
use Rattle.std.specs.Prelude.{◌≡◌, ◌≢◌, ◌⊎◌, ℕ, ◌≤◌, Bool, true, false, List, [], ◌∷◌, ◌++◌, length, codes, Option, Result, Ok, Err}
use Rattle.std.specs.List.{list_any, flat_map}
use Rattle.std.specs.Io.KnownBytes.{Appends}
use Rattle.clfs_lsn.specs.Words.{lsn_text}
use Rattle.clfs_ports.specs.Cause as ports
use Rattle.clfs_disk.specs.State.{DiskState, TellsContents, IsHonest, IsSteady, IsSettled, Later, Rises}
use Rattle.clfs_model.specs.Accepted.{serve_limits}
use Rattle.clfs_model.specs.Flush.{cut}
use Rattle.clfs_model.specs.declared.refusal.Refusal.TheVariants as log_refusals
use Rattle.clfs_model.specs.declared.state.State.{State}
use Rattle.clfs_model.specs.Storable.{IsStorable}
use Rattle.clfs_model.specs.Text.{refusal_text}
use Rattle.clfs_model.specs.Valid.{IsValid}
use Rattle.clfs_recover.specs.Files.{StandsFor, AreWholeFiles}
use Rattle.clfs_recover.specs.declared.refusal.LoadRefusal.TheVariants.{DiskFault}
use Rattle.clfs_manager.specs.Reopening.{HoldsFlushed}
use Rattle.clfs_cells.specs.declared.asked.TxnCall.{TxnCall}
use Rattle.clfs_cells.specs.declared.told.TxnLoadRefusal.{TxnLoadRefusal}
use Rattle.clfs_cells.specs.declared.told.TxnLoadRefusal.TheVariants.{Log, NotATable}
use Rattle.clfs_cells.specs.declared.told.TxnReply.{TxnReply}
use Rattle.clfs_cells.specs.Lines.{calls_of_lines, txn_reply_line}
use Rattle.clfs_cells.specs.Loading.{LoadStep}
use Rattle.clfs_cells.specs.Stored.{Store}
use Rattle.clfs_cells_laws.specs.Breaking.{tells_table_broken, tells_table_damage, tells_table_fault}
use Rattle.clfs_cells_laws.specs.Loads.{IsLoaded, IsNotLoaded}
use Rattle.clfs_operations.specs.TableAnswered.{LineStep}
use Rattle.clfs_lines.specs.Answering.{Writes, WritesFront, IsWholeAnswer, IsAnswerUpToFault, IsAnswerUpToLimit, StopsShort, StopsAtFault, IsAnswerStatus}
use Rattle.clfs_lines.specs.declared.incomplete.IncompleteLine.TheVariants.{Counts}
use Rattle.clfs_lines.specs.Ends.{AppendsFront}
use Rattle.clfs_operations.specs.Complete.{IsDone}
use Rattle.clfs_operations.specs.Ends.{disk_fault_text}
use Rattle.clfs_operations.specs.Opened.{RefusesLog, IsUnopenedText, IsRefusalText}
use Rattle.clfs_operations.specs.Serve.{StaysUnopened}
use Rattle.clfs_operations.specs.TxnCrashed.{IsLoadingLeft, IsServingLeft}

-- ---- lines

-- What lines ask for is done by a store, one after the other, and these are its replies.
abbrev pub TableRun : Bool → Store → List (Result TxnCall ℕ) → List TxnReply → Store → Type 0
TableRun told s [] [] t = t ≡ s
TableRun told s [] (reply ∷ answers) t = ⊥
TableRun told s (asked ∷ lines) [] t = ⊥
TableRun told s (asked ∷ lines) (reply ∷ answers) t = (mid : Store) × (LineStep told s asked reply mid × TableRun told mid lines answers t)

-- some reply tells that the disk failed
abbrev pub has_table_fault : List TxnReply → Bool
has_table_fault answers = list_any tells_table_fault answers

-- some reply tells damage
abbrev pub has_table_damage : List TxnReply → Bool
has_table_damage answers = list_any tells_table_damage answers

-- some reply tells that the log is broken
abbrev pub has_table_broken : List TxnReply → Bool
has_table_broken answers = list_any tells_table_broken answers

-- the lines of replies
abbrev pub table_text : List TxnReply → List ℕ
table_text answers = flat_map txn_reply_line answers

-- The lines of a script were answered by a store on a disk, and this text is the replies.
pub record AnswersTableLines (s : Store) (old : DiskState) (t : Store) (new : DiskState) (lines : List (List ℕ)) (text : List ℕ) : Type 0 where
  pub answers : List TxnReply
  pub run : TableRun old.nature.tells_contents s (calls_of_lines lines) answers t
  pub is : text ≡ table_text answers
  pub time : Later old new
  -- a fault is told only where the disk failed, and damage only over a disk that doesn't tell what its files hold
  pub cause : has_table_fault answers ≡ true → Rises old.faults new.faults
  pub damage : TellsContents old → has_table_damage answers ≡ false
  -- the log is broken only by these
  pub unbroken : TellsContents old → s.log.broken ≡ false → has_table_fault answers ≡ false → (t.log.broken ≡ false) × (has_table_broken answers ≡ false)
  -- files at full length stay so, and no fault comes over a steady disk that has such files
  pub whole : TellsContents old → has_table_fault answers ≡ false → AreWholeFiles old.files → AreWholeFiles new.files
  pub steady : IsSteady old → TellsContents old → AreWholeFiles old.files → has_table_fault answers ≡ false

-- ---- serving

-- A log was opened on a disk, with four write buffers: the state for which the files stood.
pub record IsOpenedLog (old : DiskState) (first : State) : Type 0 where
  pub stands : TellsContents old → StandsFor old.files first
  pub buffers_are : first.buffers ≡ 4
  pub valid : IsValid first
  pub storable : IsStorable first
  -- no client has an area then, so nothing is reserved, and nothing waits to be written
  pub stable : cut first ≡ first
  pub begins : first.broken ≡ false

-- The log on a disk was opened, its table was loaded, the lines were answered, and the log was closed; this text is the replies.
pub record IsTableAnswered (old new : DiskState) (lines : List (List ℕ)) (text : List ℕ) : Type 0 where
  pub first : State
  pub opened : IsOpenedLog old first
  -- the store that was loaded: over a disk that tells what its files hold its cells are the log's table
  pub store : Store
  pub load : LoadStep old.nature.tells_contents first 1 (Ok store.memory) store.log
  pub loaded : IsLoaded old.nature.tells_contents first 1 store.memory store.log
  -- the replies are those of its calls, one after the other
  pub last : Store
  pub answered : AnswersTableLines store old last new lines text
  -- where no line is answered that the disk failed, the files hold the flushed part of the last log, and nothing is pending
  pub files : TellsContents old → has_table_fault answered.answers ≡ false → HoldsFlushed new.files last.log
  pub settled : IsHonest old → has_table_fault answered.answers ≡ false → IsSettled new
  -- what a crash leaves of the table
  pub crash : IsHonest old → IsServingLeft old new first store (calls_of_lines lines) answered.answers last

-- A text that is all replies, or all but the last and, where it is torn, a front of that one.
pub record IsFrontOfReplies (torn : Bool) (answers : List TxnReply) (text : List ℕ) : Type 0 where
  pub whole : List TxnReply
  pub others : List TxnReply
  pub all : whole ++ others ≡ answers
  pub at_most_one : length others ≤ 1
  pub front : List ℕ
  pub untorn : torn ≡ false → front ≡ []
  pub rest : List ℕ
  pub is : text ≡ table_text whole ++ front
  pub goes_on : text ++ rest ≡ table_text answers

-- The same, and this text is the replies to all lines, or to all but the last and, where it is torn, a front of the reply to that one.
pub record IsTableAnsweredInPart (old new : DiskState) (torn : Bool) (lines : List (List ℕ)) (text : List ℕ) : Type 0 where
  pub output : List ℕ
  pub answered : IsTableAnswered old new lines output
  pub front : IsFrontOfReplies torn answered.answered.answers text

-- ---- a table that isn't loaded

-- The log on a disk was opened, its table wasn't loaded for this cause, and the log was closed.
pub record RefusesTable (cause : TxnLoadRefusal) (old new : DiskState) : Type 0 where
  pub first : State
  pub opened : IsOpenedLog old first
  pub last : State
  pub load : LoadStep old.nature.tells_contents first 1 (Err cause) last
  pub refused : IsNotLoaded old.nature.tells_contents first 1 cause last
  pub time : Later old new
  -- a fault is told only where the disk failed, and never over a steady disk whose files are at full length; damage only over a disk that doesn't tell
  -- what its files hold
  pub fault : cause ≡ Log log_refusals.DiskFault → Rises old.faults new.faults
  pub steady : IsSteady old → TellsContents old → AreWholeFiles old.files → cause ≡ Log log_refusals.DiskFault → ⊥
  pub damage : TellsContents old → (container offset at : ℕ) → cause ≡ Log (log_refusals.Damaged container offset at) → ⊥
  -- after another cause the files hold the flushed part of the log, whose table is that of before, and nothing is pending
  pub files : TellsContents old → cause ≢ Log log_refusals.DiskFault → HoldsFlushed new.files last
  pub settled : IsHonest old → cause ≢ Log log_refusals.DiskFault → IsSettled new
  -- what a crash leaves of the table
  pub crash : IsHonest old → IsLoadingLeft old new first new.clock

-- the line that says why a table isn't loaded
abbrev pub table_refusal_line : TxnLoadRefusal → List ℕ
table_refusal_line (NotATable lsn) = codes "not a table: " ++ (lsn_text lsn ++ codes "\n")
table_refusal_line (Log log_refusals.DiskFault) = disk_fault_text
table_refusal_line (Log refusal) = codes "refused " ++ (refusal_text refusal ++ codes "\n")

-- the status for it
abbrev pub table_refusal_status : TxnLoadRefusal → ℕ
table_refusal_status (NotATable lsn) = 9
table_refusal_status (Log log_refusals.DiskFault) = 4
table_refusal_status (Log log_refusals.NoMemory) = 5
table_refusal_status (Log refusal) = 10

-- Why a table isn't loaded was told by its status and its line, or the sink failed and took a front of it, or memory ran out and nothing was written.
pub record TellsTableRefusal (status : ℕ) (cause : TxnLoadRefusal) (written written_after : Option (List ℕ)) (sink sink_after : ℕ) : Type 0 where
  pub statuses : (status ≡ table_refusal_status cause) ⊎ ((status ≡ 3) ⊎ (status ≡ 5))
  pub line : status ≢ 3 → status ≢ 5 → Appends written written_after (table_refusal_line cause)
  pub sink_fault : status ≡ 3 → ports.Rises sink sink_after
  pub sink_fault_front : status ≡ 3 → (cause ≢ Log log_refusals.NoMemory) × AppendsFront written written_after (table_refusal_line cause)
  pub no_memory_silence : status ≡ 5 → Appends written written_after []
  pub sink_count : sink ≤ sink_after

-- The table wasn't loaded, and this is the line that says why: its status.
pub record IsTableRefusalText (status : ℕ) (old new : DiskState) (text : List ℕ) : Type 0 where
  pub cause : TxnLoadRefusal
  pub by : table_refusal_status cause ≡ status
  pub refuses : RefusesTable cause old new
  pub line : text ≡ table_refusal_line cause

-- The table wasn't loaded, for another cause than out of memory, and this is the line that says why.
pub record IsAnyTableRefusalText (old new : DiskState) (text : List ℕ) : Type 0 where
  pub cause : TxnLoadRefusal
  pub other : cause ≢ Log log_refusals.NoMemory
  pub refuses : RefusesTable cause old new
  pub line : text ≡ table_refusal_line cause

-- The table wasn't loaded, and nothing was read or written.
pub record StaysUnloaded (old new : DiskState) (left left_after written written_after : Option (List ℕ)) : Type 0 where
  pub cause : TxnLoadRefusal
  pub refuses : RefusesTable cause old new
  pub unread : left_after ≡ left
  pub silence : Appends written written_after []

-- ---- how it ends

-- the statuses of serving a table: those of answering; that the disk failed before, or that its files aren't a log's; that the stream is no table, or
-- that the log refused to load it
abbrev pub IsTxnStatus : ℕ → Type 0
IsTxnStatus status = IsAnswerStatus status ⊎ ((status ≡ 4) ⊎ ((status ≡ 6) ⊎ ((status ≡ 9) ⊎ (status ≡ 10))))

-- How serving a table ends: what each status says of the log on the disk, before and after, of the bytes that the source has left, of those that the
-- sink has taken, and of the two counts of faults.
pub record EndsTxn (status : ℕ) (old new : DiskState) (left left_after written written_after : Option (List ℕ)) (source source_after sink sink_after : ℕ) : Type 0 where
  -- there is no other status
  pub statuses : IsTxnStatus status
  -- the source was read to its end, and the sink's new bytes are the replies to all its lines
  pub done : status ≡ 0 → Writes (IsWholeAnswer serve_limits Counts (IsTableAnswered old new) left left_after) written written_after
  -- the source failed in this call, and the lines that came whole before are answered
  pub source_fault : status ≡ 2 → ports.Rises source source_after
  pub source_fault_answers : status ≡ 2 → Writes (IsAnswerUpToFault serve_limits (IsTableAnswered old new) left left_after) written written_after
  -- the sink failed in this call: of the last line that was answered a front of the reply was written, and all replies before it, or a front of the
  -- line that says why there is no log or no table
  pub sink_fault : status ≡ 3 → ports.Rises sink sink_after
  pub sink_fault_front : status ≡ 3
      → StopsAtFault serve_limits Counts (IsTableAnswered old new) (IsTableAnsweredInPart old new) left left_after written written_after
      ⊎ (WritesFront (IsRefusalText old new) written written_after ⊎ WritesFront (IsAnyTableRefusalText old new) written written_after)
  -- the disk failed in this call, before the table was loaded, and the line that says so was written
  pub disk_fault : status ≡ 4 → RefusesLog DiskFault old new ⊎ RefusesTable (Log log_refusals.DiskFault) old new
  pub disk_fault_line : status ≡ 4 → Appends written written_after disk_fault_text
  -- memory ran out: the log wasn't opened or its table wasn't loaded, and nothing was read or written, or lines up to some were answered, and all their
  -- replies were written whole, or all but the last and nothing of that one
  pub no_memory : status ≡ 5 → StaysUnopened old new left left_after written written_after
      ⊎ (StaysUnloaded old new left left_after written written_after
      ⊎ StopsShort serve_limits Counts (IsTableAnsweredInPart old new false) left left_after written written_after)
  -- the files aren't a log's, and the line that says so was written
  pub no_log : status ≡ 6 → Writes (IsUnopenedText old new) written written_after
  -- what the source gave passes a limit; the lines that came whole before it are answered, and then the line that says so
  pub too_long : status ≡ 7 → Writes (IsAnswerUpToLimit serve_limits (IsTableAnswered old new) left left_after) written written_after
  -- the stream is no table, and the line that names the record was written
  pub no_table : status ≡ 9 → Writes (IsTableRefusalText 9 old new) written written_after
  -- the log refused to load the table, and the line that says why was written
  pub refused : status ≡ 10 → Writes (IsTableRefusalText 10 old new) written written_after
  -- the source isn't read before the table is loaded
  pub unread : (status ≡ 4) ⊎ ((status ≡ 6) ⊎ ((status ≡ 9) ⊎ (status ≡ 10))) → (left_after ≡ left) × (source_after ≡ source)
  -- the counts of faults never fall
  pub source_count : source ≤ source_after
  pub sink_count : sink ≤ sink_after

-- ---- where nothing outside fails

-- no reply tells a fault, damage, or that the log is broken
pub record AreTableCalm (answers : List TxnReply) : Type 0 where
  pub no_fault : has_table_fault answers ≡ false
  pub no_damage : has_table_damage answers ≡ false
  pub no_broken : has_table_broken answers ≡ false

-- the lines were answered, none of them by a fault, damage, or that the log is broken
pub record IsTableAnsweredCalmly (old new : DiskState) (lines : List (List ℕ)) (text : List ℕ) : Type 0 where
  pub answered : IsTableAnswered old new lines text
  pub calm : AreTableCalm answered.answered.answers

-- the same where memory ran out
pub record IsTableAnsweredCalmlyInPart (old new : DiskState) (torn : Bool) (lines : List (List ℕ)) (text : List ℕ) : Type 0 where
  pub answered : IsTableAnsweredInPart old new torn lines text
  pub calm : AreTableCalm answered.answered.answered.answers

-- If nothing outside fails, the table was served, or memory ran out, or the stream is no table, or the log refused to load it; and no line was answered
-- by a fault, damage, or that the log is broken, also none whose reply wasn't written.
pub record TableComesThrough (status : ℕ) (old new : DiskState) (left left_after written written_after : Option (List ℕ)) : Type 0 where
  pub statuses : IsDone status ⊎ ((status ≡ 9) ⊎ (status ≡ 10))
  pub done : status ≡ 0 → Writes (IsWholeAnswer serve_limits Counts (IsTableAnsweredCalmly old new) left left_after) written written_after
  pub no_memory : status ≡ 5 → StaysUnopened old new left left_after written written_after
      ⊎ (StaysUnloaded old new left left_after written written_after
      ⊎ StopsShort serve_limits Counts (IsTableAnsweredCalmlyInPart old new false) left left_after written written_after)
