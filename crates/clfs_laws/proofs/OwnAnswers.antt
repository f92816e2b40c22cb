-- No answer tells of memory, of the disk, of an earlier call or of a bad line.
use Rattle.clfs_laws.proofs.Words.{true, ◌≡◌, ℕ, refl, Option, LogEntry, Call, State, Area, Cursor, live_at, newest_restart, record_cursor, restart_cursor}
use Rattle.clfs_laws.proofs.Words.{stream_number, Outcome, answer, over_area, moved_on, is_own_reply}
use Rattle.clfs_model.specs.declared.call.Call.TheVariants as calls
use Rattle.clfs_laws.proofs.OutcomeCases.{of_option, of_area, of_cursor}

-- an outcome whose reply is the call's own
abbrev IsOwn : Outcome → Type 0
IsOwn o = is_own_reply o.reply ≡ true

over_own : (s : State) (client number : ℕ) (f : Area → Outcome) → ((area : Area) → IsOwn (f area)) → IsOwn (over_area s client number f)
over_own s client number f each = of_area IsOwn s client number f each refl

moved_own : (s : State) (area : Area) (number : ℕ) (found : Option Cursor) → IsOwn (moved_on s area number found)
moved_own s area number found = of_cursor IsOwn s area number found (λ (entry : LogEntry). refl) refl

-- the answer of each call
pub answer_own : (s : State) (client : ℕ) (call : Call) → is_own_reply (answer s client call).reply ≡ true
answer_own s client (calls.OpenStream name) = of_option IsOwn (stream_number s name) _ _ (λ (number : ℕ). refl) refl
answer_own s client (calls.CreateArea stream largest reads) = refl
answer_own s client (calls.DeleteArea number) = refl
answer_own s client (calls.Reserve number sizes) = over_own s client number _ (λ (area : Area). refl)
answer_own s client (calls.Release number sectors) = over_own s client number _ (λ (area : Area). refl)
answer_own s client (calls.Align number sizes) = refl
answer_own s client (calls.Append number draft reserved sizes) = over_own s client number _ (λ (area : Area). refl)
answer_own s client (calls.Flush number) = refl
answer_own s client (calls.FlushTo number lsn) = refl
answer_own s client (calls.Read number lsn mode) = over_own s client number _ (λ (area : Area). of_option IsOwn (live_at s area.stream lsn) _ _ (λ (entry : LogEntry). refl) refl)
answer_own s client (calls.ReadNext number cursor) = over_own s client number _ (λ (area : Area). moved_own s area cursor (record_cursor area cursor))
answer_own s client (calls.EndRead number cursor) = refl
answer_own s client (calls.WriteRestart number bytes base reserved) = over_own s client number _ (λ (area : Area). refl)
answer_own s client (calls.ReadRestart number) = over_own s client number _ (λ (area : Area). of_option IsOwn (newest_restart s area.stream) _ _ (λ (entry : LogEntry). refl) refl)
answer_own s client (calls.PreviousRestart number cursor) = over_own s client number _ (λ (area : Area). moved_own s area cursor (restart_cursor area cursor))
answer_own s client (calls.Advance number lsn) = over_own s client number _ (λ (area : Area). refl)
answer_own s client (calls.SetArchive on) = refl
answer_own s client (calls.SetArchiveTail lsn) = refl
answer_own s client calls.ListExtents = refl
answer_own s client (calls.InstallPolicy policy) = refl
answer_own s client (calls.RemovePolicy kind) = refl
answer_own s client (calls.SetSize containers) = refl
answer_own s client (calls.Info stream) = refl
