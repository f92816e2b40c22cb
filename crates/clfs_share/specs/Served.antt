-- How a client is served: its lines are answered, and then it leaves.
use Rattle.std.specs.Prelude.{ℕ, List, Option}
use Rattle.clfs_model.specs.Accepted.{Limits}
use Rattle.clfs_lines.specs.Answering.{EndsAnswering}
use Rattle.clfs_lines.specs.Taken.{script_limits}
use Rattle.clfs_lines.specs.declared.incomplete.IncompleteLine.TheVariants.{Dropped}
use Rattle.clfs_lines.specs.Through.{AnswersThrough, AnswersInPart}
use Rattle.clfs_turn.specs.Seats.{IsSameSeat}
use Rattle.clfs_shared.specs.Sessions.{SessionState}
use Rattle.clfs_share.specs.Answered.{AnswersLine}
use Rattle.clfs_share.specs.Left.{HasLeft}

-- the limits of a client's lines: that of a line, and none on all of them but the one of a number of 64 bits
abbrev pub client_limits : Limits
client_limits = script_limits 18446744073709551615

-- A client was served. Its lines were answered one after the other, and their replies were written in this order, up to the end that the
-- status tells; then its areas were deleted. Bytes after its last line feed are dropped.
pub record IsServed (s t : SessionState) (status : ℕ) (left left_after written written_after : Option (List ℕ)) (source source_after sink sink_after : ℕ) : Type 0 where
  pub between : SessionState
  pub same : IsSameSeat s between
  pub ends : EndsAnswering client_limits Dropped (AnswersThrough AnswersLine s between) (AnswersInPart AnswersLine s between) status left left_after
      written written_after source source_after sink sink_after
  pub leaves : HasLeft between t
