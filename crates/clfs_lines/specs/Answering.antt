-- How the answering of a script ends.
use Rattle.std.specs.Prelude.{◌≡◌, ℕ, ◌≤◌, ◌⊎◌, Bool, true, false, List, ◌++◌, codes, take, Option}
use Rattle.std.specs.Io.KnownBytes.{Consumes, Appends}
use Rattle.clfs_ports.specs.Cause.{Rises}
use Rattle.clfs_model.specs.Accepted.{Limits, accepted}
use Rattle.clfs_lines.specs.Ends.{AppendsFront}
use Rattle.clfs_lines.specs.Taken.{lines_in, IsWholeScript, IsPastLimit, AreReached}
use Rattle.clfs_lines.specs.declared.incomplete.IncompleteLine.{IncompleteLine}

-- Texts that are the replies to lines.
abbrev pub Answers : Type 1
Answers = List (List ℕ) → List ℕ → Type 0

-- the line for an input that is too long
abbrev pub too_long_text : List ℕ
too_long_text = codes "input too long\n"

-- the replies to the lines that came whole and before a limit, and then the line for an input that is too long
pub record IsAnsweredUpToLimit (limits : Limits) (Is : Answers) (bytes text : List ℕ) : Type 0 where
  pub output : List ℕ
  pub answered : Is (accepted limits bytes) output
  pub line : text ≡ output ++ too_long_text

-- The script was read to its end within its limits, and this text is the replies to all its lines.
pub record IsWholeAnswer (limits : Limits) (incomplete : IncompleteLine) (Is : Answers) (left left_after : Option (List ℕ)) (text : List ℕ) : Type 0 where
  pub script : List ℕ
  pub read : IsWholeScript limits left left_after script
  pub answered : Is (lines_in incomplete script) text

-- The source failed, and this text is the replies to the lines that came whole before, up to the first that is too long.
pub record IsAnswerUpToFault (limits : Limits) (Is : Answers) (left left_after : Option (List ℕ)) (text : List ℕ) : Type 0 where
  pub bytes : List ℕ
  pub given : Consumes left left_after bytes
  pub answered : Is (accepted limits bytes) text

-- What the source gave passes a limit, and this text is the replies to the lines that came whole before it, and the line that says so.
pub record IsAnswerUpToLimit (limits : Limits) (Is : Answers) (left left_after : Option (List ℕ)) (text : List ℕ) : Type 0 where
  pub bytes : List ℕ
  pub given : IsPastLimit limits left left_after bytes
  pub answered : IsAnsweredUpToLimit limits Is bytes text

-- What the source gave passes a limit, and this text is the replies to the lines that came whole before it, and a front of the line that says so.
pub record IsFrontUpToLimit (limits : Limits) (Is : Answers) (left left_after : Option (List ℕ)) (text : List ℕ) : Type 0 where
  pub bytes : List ℕ
  pub given : IsPastLimit limits left left_after bytes
  pub output : List ℕ
  pub answered : Is (accepted limits bytes) output
  pub count : ℕ
  pub front : text ≡ output ++ take count too_long_text

-- The sink's new bytes are a text of this kind.
abbrev pub Writes : (List ℕ → Type 0) → Option (List ℕ) → Option (List ℕ) → Type 0
Writes IsText written written_after = (text : List ℕ) × IsText text × Appends written written_after text

-- The sink's new bytes are a front of a text of this kind.
abbrev pub WritesFront : (List ℕ → Type 0) → Option (List ℕ) → Option (List ℕ) → Type 0
WritesFront IsText written written_after = (text : List ℕ) × IsText text × AppendsFront written written_after text

-- Lines up to some were answered, and the sink's new bytes are a text of them of this kind.
abbrev pub StopsShort : Limits → IncompleteLine → Answers → Option (List ℕ) → Option (List ℕ) → Option (List ℕ) → Option (List ℕ) → Type 0
StopsShort limits incomplete InPart left left_after written written_after =
    (lines : List (List ℕ)) × (AreReached limits incomplete left left_after lines × Writes (InPart lines) written written_after)

-- The sink failed in the reply to a line, and no line after that one was answered, or in the line that says that a limit is passed.
abbrev pub StopsAtFault : Limits → IncompleteLine → Answers → (Bool → Answers) → Option (List ℕ) → Option (List ℕ) → Option (List ℕ) → Option (List ℕ) → Type 0
StopsAtFault limits incomplete Is InPart left left_after written written_after =
    StopsShort limits incomplete (InPart true) left left_after written written_after ⊎ Writes (IsFrontUpToLimit limits Is left left_after) written written_after

-- the statuses of answering: done, a source fault, a sink fault, no memory, too long an input
abbrev pub IsAnswerStatus : ℕ → Type 0
IsAnswerStatus status = (status ≡ 0) ⊎ ((status ≡ 2) ⊎ ((status ≡ 3) ⊎ ((status ≡ 5) ⊎ (status ≡ 7))))

-- How answering a script within limits ends: what each status says of the bytes that the source has left, before and after, of those that the sink has
-- taken, and of the two counts of faults. Bytes after the last line feed are a line only where they count. `Is` says that a text is the replies to lines, `InPart` that it is that or lacks the last reply, of which it
-- has a front where it is torn.
pub record EndsAnswering (limits : Limits) (incomplete : IncompleteLine) (Is : Answers) (InPart : Bool → Answers) (status : ℕ) (left left_after written written_after : Option (List ℕ)) (source source_after sink sink_after : ℕ) : Type 0 where
  -- there is no other status
  pub statuses : IsAnswerStatus status
  -- the source was read to its end, and the sink's new bytes are the replies to all its lines
  pub done : status ≡ 0 → Writes (IsWholeAnswer limits incomplete Is left left_after) written written_after
  -- the source failed in this call, and the lines that came whole before are answered
  pub source_fault : status ≡ 2 → Rises source source_after
  pub source_fault_answers : status ≡ 2 → Writes (IsAnswerUpToFault limits Is left left_after) written written_after
  -- the sink failed in this call: of the last line that was answered a front of the reply was written, and all replies before it
  pub sink_fault : status ≡ 3 → Rises sink sink_after
  pub sink_fault_front : status ≡ 3 → StopsAtFault limits incomplete Is InPart left left_after written written_after
  -- memory ran out: lines up to some were answered, and all their replies were written whole, or all but the last and nothing of that one
  pub no_memory : status ≡ 5 → StopsShort limits incomplete (InPart false) left left_after written written_after
  -- what the source gave passes a limit; the lines that came whole before it are answered, and then the line that says so
  pub too_long : status ≡ 7 → Writes (IsAnswerUpToLimit limits Is left left_after) written written_after
  -- the counts of faults never fall
  pub source_count : source ≤ source_after
  pub sink_count : sink ≤ sink_after
