-- How a log on a disk answers the lines of a script.
use Rattle.std.specs.Prelude.{◌≡◌, ℕ, ◌≤◌, Bool, true, false, List, [], ◌∷◌, ◌++◌, map, length}
use Rattle.clfs_disk.specs.State.{DiskState, TellsContents, IsHonest, IsSteady, IsSettled, Later, Rises}
use Rattle.clfs_model.specs.declared.refusal.Refusal.{Refusal}
use Rattle.clfs_model.specs.declared.refusal.Refusal.TheVariants as refusals
use Rattle.clfs_model.specs.declared.reply.Reply.{Reply}
use Rattle.clfs_model.specs.declared.reply.Reply.TheVariants as replies
use Rattle.clfs_model.specs.declared.state.State.{State}
use Rattle.clfs_model.specs.Flush.{cut}
use Rattle.clfs_model.specs.Happened.{happened_of}
use Rattle.clfs_model.specs.Lines.{without_return}
use Rattle.clfs_model.specs.Run.{Request, RequestStep, Run, asks, reopens, bad_line}
use Rattle.clfs_model.specs.Script.{calls_and_reopening, line_request, requests_of_lines}
use Rattle.clfs_model.specs.Step.{IsDamaged}
use Rattle.clfs_model.specs.Storable.{IsStorable}
use Rattle.clfs_model.specs.Text.{output_of, reply_line, client_of}
use Rattle.clfs_model.specs.Valid.{IsValid}
use Rattle.clfs_recover.specs.Files.{StandsFor, AreWholeFiles}
use Rattle.clfs_manager.specs.Reading.{TellsBlock}
use Rattle.clfs_manager.specs.Reopening.{HoldsFlushed, TellsPlace}
use Rattle.clfs_manager.specs.Crashes.{CrashSurvives}
use Rattle.clfs_manager.specs.Written.{WritesDisk}
use Rattle.clfs_operations.specs.Crashed.{CrashLeavesRun, IsLeftFrom, StandsStill, asked_by}
use Rattle.clfs_operations.specs.Told.{has_fault, has_damage, has_broken}

-- what lines ask for, each with its carriage return dropped
abbrev pub requests_of : List (List ℕ) → List Request
requests_of lines = requests_of_lines calls_and_reopening lines

-- Where the log isn't broken after a step it wasn't before, and no fault was told.
abbrev pub IsFaultless : State → Reply → State → Type 0
IsFaultless s reply t = t.broken ≡ false → (s.broken ≡ false) × (reply ≡ replies.Refused refusals.DiskFault → ⊥)

-- Where a refusal tells damage, some bytes fail there: of the block of the record to which a call comes, or where opening the log again reads.
abbrev pub TellsDamageOf : State → Request → Refusal → Type 0
TellsDamageOf s (asks client call) refusal = TellsBlock s client call refusal
TellsDamageOf s (reopens client) refusal = TellsPlace refusal
TellsDamageOf s (bad_line at) refusal = Unit {0}

-- the same of a reply
abbrev pub TellsItsPlace : State → Request → Reply → Type 0
TellsItsPlace s request reply = (refusal : Refusal) → reply ≡ replies.Refused refusal → TellsDamageOf s request refusal

-- Each request is answered by a step from the state in which it begins, and tells damage at its place alone.
abbrev pub RepliesTellPlaces : Bool → State → List Request → List Reply → State → Type 0
RepliesTellPlaces told s [] [] t = t ≡ s
RepliesTellPlaces told s (request ∷ requests) (reply ∷ replies) t =
    (mid : State) × (RequestStep told s request (happened_of reply) reply mid × (TellsItsPlace s request reply × RepliesTellPlaces told mid requests replies t))
RepliesTellPlaces told s _ _ t = ⊥

-- One request was answered by a step of the log machine, in which that happened what the reply tells. Damage is told only over a disk that doesn't
-- tell what its files hold.
pub record AnswersOne (s : State) (old : DiskState) (request : Request) (reply : Reply) (t : State) (new : DiskState) : Type 0 where
  pub step : RequestStep old.nature.tells_contents s request (happened_of reply) reply t
  pub damage : TellsContents old → IsDamaged reply → ⊥
  pub place : TellsItsPlace s request reply
  pub writes : WritesDisk (reply ≡ replies.Refused refusals.DiskFault) old new
  -- a crash in it leaves a survivor, and where memory ran out for a call the flushed part alone; a broken log makes no call on the disk
  pub crash : CrashSurvives (asked_by request reply) s old new
  pub stopped : s.broken ≡ true → StandsStill old new
  pub faultless : IsFaultless s reply t

-- one line was answered, and its reply stands after the output
pub record AnswersLine (s : State) (old : DiskState) (line before after : List ℕ) (t : State) (new : DiskState) : Type 0 where
  pub reply : Reply
  pub answered : AnswersOne s old (line_request (without_return line)) reply t new
  pub text : after ≡ before ++ reply_line (client_of (line_request (without_return line))) reply

-- one line was answered, and its reply is this text
pub record AnswersText (s : State) (old : DiskState) (line text : List ℕ) (t : State) (new : DiskState) : Type 0 where
  pub reply : Reply
  pub answered : AnswersOne s old (line_request (without_return line)) reply t new
  pub is : text ≡ reply_line (client_of (line_request (without_return line))) reply

-- one line was answered, and memory ran out after that
pub record AnswersUnwritten (s : State) (old : DiskState) (line : List ℕ) (t : State) (new : DiskState) : Type 0 where
  pub reply : Reply
  pub answered : AnswersOne s old (line_request (without_return line)) reply t new

-- Requests were answered, one after the other, by a run of the log machine, in whose steps that happened what the replies tell.
pub record AnswersAll (s : State) (old : DiskState) (requests : List Request) (answers : List Reply) (t : State) (new : DiskState) : Type 0 where
  pub run : Run old.nature.tells_contents s requests (map happened_of answers) answers t
  pub time : Later old new
  -- a fault is told only where the disk failed, and damage only over a disk that doesn't tell what its files hold
  pub cause : has_fault answers ≡ true → Rises old.faults new.faults
  pub damage : TellsContents old → has_damage answers ≡ false
  -- and then at its place
  pub places : RepliesTellPlaces old.nature.tells_contents s requests answers t
  -- the log is broken only by these
  pub unbroken : TellsContents old → s.broken ≡ false → has_fault answers ≡ false → (t.broken ≡ false) × (has_broken answers ≡ false)
  -- files at full length stay so, and no fault comes over a steady disk that has such files
  pub whole : TellsContents old → has_fault answers ≡ false → AreWholeFiles old.files → AreWholeFiles new.files
  pub steady : IsSteady old → TellsContents old → AreWholeFiles old.files → has_fault answers ≡ false
  -- where the log isn't broken no fault was told
  pub faultless : t.broken ≡ false → has_fault answers ≡ false

-- The lines were answered, and this text is the replies, a line each.
pub record AnswersLines (s : State) (old : DiskState) (t : State) (new : DiskState) (lines : List (List ℕ)) (text : List ℕ) : Type 0 where
  pub answers : List Reply
  pub answered : AnswersAll s old (requests_of lines) answers t new
  pub is : text ≡ output_of (requests_of lines) answers
  -- while they were, a crash left survivors, one line after the other
  pub crash : CrashLeavesRun s old (requests_of lines) answers t new

-- A text that is the replies to all requests, or to all but the last and, where it is torn, a front of the reply to that one.
pub record IsFrontOutput (torn : Bool) (requests : List Request) (answers : List Reply) (text : List ℕ) : Type 0 where
  pub whole : List Reply
  pub others : List Reply
  pub all : whole ++ others ≡ answers
  pub at_most_one : length others ≤ 1
  pub front : List ℕ
  pub untorn : torn ≡ false → front ≡ []
  pub rest : List ℕ
  pub is : text ≡ output_of requests whole ++ front
  pub goes_on : text ++ rest ≡ output_of requests answers

-- The lines were answered, and this text is the replies to all of them, or to all but the last and, where it is torn, a front of the reply to that one.
pub record AnswersInPart (s : State) (old : DiskState) (t : State) (new : DiskState) (torn : Bool) (lines : List (List ℕ)) (text : List ℕ) : Type 0 where
  pub output : List ℕ
  pub answered : AnswersLines s old t new lines output
  pub front : IsFrontOutput torn (requests_of lines) answered.answers text

-- The log on a disk was opened with so many write buffers, its lines were answered, and it was closed; this text is the replies.
pub record IsAnswered (buffers : ℕ) (old new : DiskState) (lines : List (List ℕ)) (text : List ℕ) : Type 0 where
  pub first : State
  pub last : State
  pub answers : List Reply
  -- it begins at the state for which the files stand; over a disk that doesn't tell what its files hold, at some state that files can stand for
  pub stands : TellsContents old → StandsFor old.files first
  pub buffers_are : first.buffers ≡ buffers
  pub valid : IsValid first
  pub storable : IsStorable first
  -- no client has an area then, so nothing is reserved, and nothing waits to be written
  pub stable : cut first ≡ first
  pub begins : first.broken ≡ false
  -- the replies are those of a run of the log machine, and so is the text
  pub answered : AnswersAll first old (requests_of lines) answers last new
  pub is : text ≡ output_of (requests_of lines) answers
  -- where no line is answered that the disk failed, the files hold the flushed part of the last state, and nothing is pending
  pub files : TellsContents old → has_fault answers ≡ false → HoldsFlushed new.files last
  pub settled : IsHonest old → has_fault answers ≡ false → IsSettled new
  -- a crash at any moment from the end of loading on leaves files that open to a survivor of the line that is answered then
  pub crash : IsHonest old → IsLeftFrom old new first (requests_of lines) answers last

-- The same, and this text is the replies to all lines, or to all but the last and, where it is torn, a front of the reply to that one.
pub record IsAnsweredInPart (buffers : ℕ) (old new : DiskState) (torn : Bool) (lines : List (List ℕ)) (text : List ℕ) : Type 0 where
  pub output : List ℕ
  pub answered : IsAnswered buffers old new lines output
  pub front : IsFrontOutput torn (requests_of lines) answered.answers text
