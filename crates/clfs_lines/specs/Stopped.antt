-- Why no further line is answered, and what was answered and written until then.
use Rattle.std.specs.Prelude.{◌⊎◌, ℕ, ◌<◌, ◌≤◌, Bool, true, false, List, length, Option}
use Rattle.clfs_ports.specs.Cause.{Rises}
use Rattle.clfs_model.specs.Accepted.{Limits, serve_limits, accepted}
use Rattle.clfs_lines.specs.Answering.{Answers, IsAnswerUpToFault, StopsShort, Writes}
use Rattle.clfs_lines.specs.Taken.{IsPastLimit}
use Rattle.clfs_lines.specs.declared.incomplete.IncompleteLine.{IncompleteLine}
use Rattle.clfs_lines.specs.declared.stop.Stop.{Stop}
use Rattle.clfs_lines.specs.declared.stop.Stop.TheVariants.{SourceFault, SinkFault, NoMemory, TooLong}

-- What the source gave passes a limit, and this text is the replies to the lines that came whole before it.
pub record IsAnswerBeforeLimit (limits : Limits) (Is : Answers) (left left_after : Option (List ℕ)) (text : List ℕ) : Type 0 where
  pub bytes : List ℕ
  pub given : IsPastLimit limits left left_after bytes
  pub answered : Is (accepted limits bytes) text

-- what was answered and written, by the cause
abbrev pub HasStopped : Limits → IncompleteLine → Answers → (Bool → Answers) → Stop → Option (List ℕ) → Option (List ℕ) → Option (List ℕ) → Option (List ℕ) → ℕ → ℕ → ℕ → ℕ → Type 0
HasStopped limits incomplete Is InPart SourceFault left left_after written written_after source source_after sink sink_after =
    Rises source source_after × Writes (IsAnswerUpToFault limits Is left left_after) written written_after
HasStopped limits incomplete Is InPart SinkFault left left_after written written_after source source_after sink sink_after =
    Rises sink sink_after × StopsShort limits incomplete (InPart true) left left_after written written_after
HasStopped limits incomplete Is InPart NoMemory left left_after written written_after source source_after sink sink_after =
    StopsShort limits incomplete (InPart false) left left_after written written_after
HasStopped limits incomplete Is InPart TooLong left left_after written written_after source source_after sink sink_after =
    Writes (IsAnswerBeforeLimit limits Is left left_after) written written_after

-- Why one line isn't answered whole: it is too long, and nothing has changed, or memory ran out, before it was answered or after that.
abbrev pub StopsLine : Stop → List ℕ → Type 0 → Type 0 → Type 0
StopsLine TooLong line Same Unwritten = (serve_limits.line < length line) × Same
StopsLine NoMemory line Same Unwritten = (length line ≤ serve_limits.line) × (Same ⊎ Unwritten)
StopsLine SourceFault line Same Unwritten = ⊥
StopsLine SinkFault line Same Unwritten = ⊥
