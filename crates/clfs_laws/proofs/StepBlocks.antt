-- Every step keeps the blocks of a log one after the other, whatever the call's arguments.
use Rattle.clfs_laws.proofs.Words.{◌≡◌, ℕ, Bool, true, false, refl, length, Option, Some, None, LogEntry, Policy, PolicyKind, Call, Happened, Reply, State}
use Rattle.clfs_laws.proofs.Words.{Area, Cursor, area_of, live_at, own_sum, grown, with_containers, flush, next_lsn, appended, with_policy, without_policy}
use Rattle.clfs_laws.proofs.Words.{newest_restart, record_cursor, restart_cursor, refusal, in_area, stream_number, append_refusal, restart_refusal, Outcome}
use Rattle.clfs_laws.proofs.Words.{outcome, answer, over_area, moved_on, archiving, advanced, restarted, Step, with_broken, HasBlocks, IsValid, HasSpaceLaws}
use Rattle.clfs_lsn.specs.declared.policy.Policy.TheVariants as policies
use Rattle.clfs_lsn.specs.declared.policy.PolicyKind.TheVariants as kinds
use Rattle.clfs_model.specs.declared.call.Call.TheVariants as calls
use Rattle.clfs_model.specs.declared.reply.Reply.TheVariants as replies
use Rattle.clfs_laws.proofs.OutcomeCases.{of_option, of_area, of_cursor}
use Rattle.clfs_laws.proofs.StepLeads.{step_leads}
use Rattle.clfs_laws.proofs.StorableBlocks.{blocks_as, blocks_flush, blocks_flushed_to, blocks_grown, blocks_hold, blocks_appended, blocks_restarted}
use Rattle.clfs_laws.proofs.StorableSteps.{in_each}
use Rattle.clfs_laws.proofs.ValidSteps.{two_of}

-- an outcome whose blocks lie so
abbrev LaidIn : Outcome → Type 0
LaidIn o = HasBlocks o.state

-- a state of the same shape, records and place
same : (s t : State) → t.shape ≡ s.shape → t.records ≡ s.records → t.place ≡ s.place → HasBlocks s → HasBlocks t
same s t shape records place blocks = blocks_as s t shape records place blocks

-- over an area, which may be missing
over : (s : State) (client number : ℕ) (f : Area → Outcome) → ((area : Area) → HasBlocks (f area).state) → HasBlocks s
    → HasBlocks (over_area s client number f).state
over s client number f each blocks = of_area LaidIn s client number f each blocks

-- over a cursor, which may be missing or at its end
moved : (s : State) (area : Area) (number : ℕ) (found : Option Cursor) → HasBlocks s → HasBlocks (moved_on s area number found).state
moved s area number found blocks = of_cursor LaidIn s area number found (λ (entry : LogEntry). same s _ refl refl refl blocks) blocks

-- a policy that is installed
installed : (s : State) (policy : Policy) → HasBlocks s → HasBlocks (with_policy s policy)
installed s (policies.Maximum value) blocks = same s (record s { maximum = Some value }) refl refl refl blocks
installed s (policies.Minimum value) blocks = same s (record s { minimum = Some value }) refl refl refl blocks
installed s (policies.Growth value) blocks = same s (record s { growth = Some value }) refl refl refl blocks
installed s policies.Automatic blocks = same s (record s { automatic = true }) refl refl refl blocks

-- a policy that is removed
removed : (s : State) (kind : PolicyKind) → HasBlocks s → HasBlocks (without_policy s kind)
removed s kinds.Maximum blocks = same s (record s { maximum = None }) refl refl refl blocks
removed s kinds.Minimum blocks = same s (record s { minimum = None }) refl refl refl blocks
removed s kinds.Growth blocks = same s (record s { growth = None }) refl refl refl blocks
removed s kinds.Automatic blocks = same s (record s { automatic = false }) refl refl refl blocks

-- archiving that is turned on or off
archived : (s : State) (on : Bool) → HasBlocks s → HasBlocks (archiving s on)
archived s true blocks = same s (archiving s true) refl refl refl blocks
archived s false blocks = same s (archiving s false) refl refl refl blocks

-- what a call that isn't refused leaves
blocks_answer : HasSpaceLaws → (s : State) (client : ℕ) (call : Call) → refusal s client call ≡ None → IsValid s → HasBlocks s
    → HasBlocks (answer s client call).state
blocks_answer space s client (calls.OpenStream name) none valid blocks =
    of_option LaidIn (stream_number s name) _ _ (λ (number : ℕ). blocks) (same s _ refl refl refl blocks)
blocks_answer space s client (calls.CreateArea stream largest reads) none valid blocks = same s _ refl refl refl blocks
blocks_answer space s client (calls.DeleteArea number) none valid blocks = same s _ refl refl refl blocks
blocks_answer space s client (calls.Reserve number sizes) none valid blocks =
    over s client number _ (λ (area : Area). blocks_hold area sizes (grown s (own_sum sizes)) (blocks_grown s (own_sum sizes) blocks)) blocks
blocks_answer space s client (calls.Release number sectors) none valid blocks = over s client number _ (λ (area : Area). same s _ refl refl refl blocks) blocks
blocks_answer space s client (calls.Align number sizes) none valid blocks = blocks
blocks_answer space s client (calls.Append number draft is_reserved sizes) none valid blocks =
    let two = two_of s (in_area s client number (λ (area : Area). append_refusal s area draft is_reserved sizes)) none in
    in_each HasBlocks s client number (λ area. append_refusal s area draft is_reserved sizes)
    (λ area. outcome (replies.Placed (next_lsn s (length draft.bytes))) (appended s area draft is_reserved sizes)) (area_of s client number) refl two.1
    (λ area there passes. blocks_appended space s client number area draft is_reserved sizes valid there passes blocks)
blocks_answer space s client (calls.Flush number) none valid blocks = blocks_flush s blocks
blocks_answer space s client (calls.FlushTo number lsn) none valid blocks = blocks_flushed_to s lsn blocks
blocks_answer space s client (calls.Read number lsn mode) none valid blocks = over s client number _ (λ (area : Area).
    of_option LaidIn (live_at s area.stream lsn) _ _ (λ (entry : LogEntry). same s _ refl refl refl blocks) blocks) blocks
blocks_answer space s client (calls.ReadNext number cursor) none valid blocks =
    over s client number _ (λ (area : Area). moved s area cursor (record_cursor area cursor) blocks) blocks
blocks_answer space s client (calls.EndRead number cursor) none valid blocks = same s _ refl refl refl blocks
blocks_answer space s client (calls.WriteRestart number bytes base is_reserved) none valid blocks =
    let two = two_of s (in_area s client number (λ (area : Area). restart_refusal s area bytes base is_reserved)) none in
    in_each HasBlocks s client number (λ area. restart_refusal s area bytes base is_reserved)
    (λ area. outcome (replies.Placed (next_lsn s (length bytes))) (restarted s area bytes base is_reserved)) (area_of s client number) refl two.1
    (λ area there passes. blocks_restarted space s client number area bytes base is_reserved valid there passes blocks)
blocks_answer space s client (calls.ReadRestart number) none valid blocks = over s client number _ (λ (area : Area).
    of_option LaidIn (newest_restart s area.stream) _ _ (λ (entry : LogEntry). same s _ refl refl refl blocks) blocks) blocks
blocks_answer space s client (calls.PreviousRestart number cursor) none valid blocks =
    over s client number _ (λ (area : Area). moved s area cursor (restart_cursor area cursor) blocks) blocks
blocks_answer space s client (calls.Advance number lsn) none valid blocks = over s client number _ (λ (area : Area).
    same (flush s) (advanced s area.stream lsn) refl refl refl (blocks_flush s blocks)) blocks
blocks_answer space s client (calls.SetArchive on) none valid blocks = archived s on blocks
blocks_answer space s client (calls.SetArchiveTail lsn) none valid blocks = same s (record s { archive = Some lsn }) refl refl refl blocks
blocks_answer space s client calls.ListExtents none valid blocks = blocks
blocks_answer space s client (calls.InstallPolicy policy) none valid blocks = installed s policy blocks
blocks_answer space s client (calls.RemovePolicy kind) none valid blocks = removed s kind blocks
blocks_answer space s client (calls.SetSize containers) none valid blocks = same s (with_containers containers s) refl refl refl blocks
blocks_answer space s client (calls.Info stream) none valid blocks = blocks

-- what every step leaves
pub blocks_step : HasSpaceLaws → (told : Bool) (s : State) (client : ℕ) (call : Call) (happened : Happened) (reply : Reply) (t : State)
    → IsValid s → HasBlocks s → Step told s client call happened reply t → HasBlocks t
blocks_step space told s client call happened reply t valid blocks step =
    step_leads HasBlocks told s client call happened reply t step (record {
      same = blocks;
      broken = same s (with_broken s) refl refl refl blocks;
      answered = λ none. blocks_answer space s client call none valid blocks;
    })
