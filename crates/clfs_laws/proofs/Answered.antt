-- A call that isn't refused isn't answered by a refusal either, unless nothing changes.
use Rattle.clfs_laws.proofs.Words.{◌≡◌, ℕ, refl, Option, LogEntry, Call, Refusal, State, Area, Cursor, live_at, newest_restart, record_cursor, restart_cursor}
use Rattle.clfs_laws.proofs.Words.{stream_number, Outcome, outcome, answer, over_area, moved_on}
use Rattle.clfs_model.specs.declared.call.Call.TheVariants as calls
use Rattle.clfs_model.specs.declared.refusal.Refusal.TheVariants as refusals
use Rattle.clfs_model.specs.declared.reply.Reply.TheVariants as replies
use Rattle.clfs_laws.proofs.OutcomeCases.{of_option, of_area, of_cursor}

-- an outcome whose reply is a refusal leaves the state
abbrev pub KeepsWhereRefused : State → Outcome → Type 0
KeepsWhereRefused s o = (refusal : Refusal) → o.reply ≡ replies.Refused refusal → o.state ≡ s

-- a refusal beside the same state
refused_kept : (s : State) (given : Refusal) → KeepsWhereRefused s (outcome (replies.Refused given) s)
refused_kept s given refusal e = refl

over : (s : State) (client number : ℕ) (f : Area → Outcome) → ((area : Area) → KeepsWhereRefused s (f area)) → KeepsWhereRefused s (over_area s client number f)
over s client number f each = of_area (KeepsWhereRefused s) s client number f each (refused_kept s refusals.NoSuchArea)

moved : (s : State) (area : Area) (number : ℕ) (found : Option Cursor) → KeepsWhereRefused s (moved_on s area number found)
moved s area number found =
    of_cursor (KeepsWhereRefused s) s area number found (λ (entry : LogEntry) (refusal : Refusal) e. absurd (cc)) (refused_kept s refusals.NoSuchCursor)

-- whatever the call
pub answer_keeps : (s : State) (client : ℕ) (call : Call) → KeepsWhereRefused s (answer s client call)
answer_keeps s client (calls.OpenStream name) =
    of_option (KeepsWhereRefused s) (stream_number s name) _ _ (λ (number : ℕ) (refusal : Refusal) e. refl) (λ (refusal : Refusal) e. absurd (cc))
answer_keeps s client (calls.CreateArea stream largest reads) = λ refusal e. absurd (cc)
answer_keeps s client (calls.DeleteArea number) = λ refusal e. absurd (cc)
answer_keeps s client (calls.Reserve number sizes) = over s client number _ (λ (area : Area) (refusal : Refusal) e. absurd (cc))
answer_keeps s client (calls.Release number sectors) = over s client number _ (λ (area : Area) (refusal : Refusal) e. absurd (cc))
answer_keeps s client (calls.Align number sizes) = λ refusal e. absurd (cc)
answer_keeps s client (calls.Append number draft reserved sizes) = over s client number _ (λ (area : Area) (refusal : Refusal) e. absurd (cc))
answer_keeps s client (calls.Flush number) = λ refusal e. absurd (cc)
answer_keeps s client (calls.FlushTo number lsn) = λ refusal e. absurd (cc)
answer_keeps s client (calls.Read number lsn mode) = over s client number _ (λ (area : Area).
    of_option (KeepsWhereRefused s) (live_at s area.stream lsn) _ _ (λ (entry : LogEntry) (refusal : Refusal) e. absurd (cc)) (refused_kept s (refusals.RecordNonexistent lsn)))
answer_keeps s client (calls.ReadNext number cursor) = over s client number _ (λ (area : Area). moved s area cursor (record_cursor area cursor))
answer_keeps s client (calls.EndRead number cursor) = λ refusal e. absurd (cc)
answer_keeps s client (calls.WriteRestart number bytes base reserved) = over s client number _ (λ (area : Area) (refusal : Refusal) e. absurd (cc))
answer_keeps s client (calls.ReadRestart number) = over s client number _ (λ (area : Area).
    of_option (KeepsWhereRefused s) (newest_restart s area.stream) _ _ (λ (entry : LogEntry) (refusal : Refusal) e. absurd (cc)) (refused_kept s refusals.NoRestart))
answer_keeps s client (calls.PreviousRestart number cursor) = over s client number _ (λ (area : Area). moved s area cursor (restart_cursor area cursor))
answer_keeps s client (calls.Advance number lsn) = over s client number _ (λ (area : Area) (refusal : Refusal) e. absurd (cc))
answer_keeps s client (calls.SetArchive on) = λ refusal e. absurd (cc)
answer_keeps s client (calls.SetArchiveTail lsn) = λ refusal e. absurd (cc)
answer_keeps s client calls.ListExtents = λ refusal e. absurd (cc)
answer_keeps s client (calls.InstallPolicy policy) = λ refusal e. absurd (cc)
answer_keeps s client (calls.RemovePolicy kind) = λ refusal e. absurd (cc)
answer_keeps s client (calls.SetSize containers) = λ refusal e. absurd (cc)
answer_keeps s client (calls.Info stream) = λ refusal e. absurd (cc)
