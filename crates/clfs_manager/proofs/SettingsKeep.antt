-- A log whose policies or whose archiving were changed.
use Rattle.clfs_manager.proofs.Words.{◌≡◌, ℕ, refl, sym, ap, ◌∙◌, Option, DiskState, IsSettled, State, is_installed, Buffered, Policies, StoredAfter}
use Rattle.clfs_manager.proofs.Words.{HasForgotten, Holds, AreKept, with_archive, with_policies, Log}
use Rattle.clfs_lsn.specs.declared.policy.PolicyKind.{PolicyKind}
use Rattle.clfs_lsn.specs.declared.policy.PolicyKind.TheVariants as kinds
use Rattle.clfs_policy.specs.Ranges.{is_installed as has_policy}
use Rattle.clfs_manager.specs.Memory.{policies_of}
use Rattle.clfs_manager.specs.Settings.{KeepsQueue, KeepsTables}
use Rattle.clfs_manager.proofs.StoredKeeps.{IsDone}

-- the blocks that are kept are the state's still
kept_settled : (s : State) (policies : Policies) (kept : Buffered) → AreKept s kept → AreKept (with_policies policies s) kept
kept_settled s policies kept are = record { stable = are.stable; records = are.records }

pub settings_done : (old new : DiskState) (before after : Log) (policies : Policies) (t : State) → with_policies policies before.state.value ≡ t
    → after.state.value ≡ with_policies policies before.state.value → Holds after.state.value after → KeepsTables before after
    → StoredAfter old new before.state.value after.state.value before.physical after.physical → (IsSettled old → IsSettled new) → new.nature ≡ old.nature
    → IsDone old new before after t
settings_done old new before after policies t is state holds keeps stored settled nature = record {
  state = state ∙ is;
  unbroken = ap (λ (u : State). u.broken) (sym is);
  broken = keeps.broken;
  holds = holds;
  stored = stored;
  kept = λ kept. rw (state, keeps.buffers) (kept_settled before.state.value policies before.buffers kept);
  settled = settled;
  nature = nature;
  forgotten = λ is. rw (state, keeps.tables, keeps.ends) (record { low = is.low; ends = is.ends });
}

kept_archived : (s : State) (tail : Option ℕ) (kept : Buffered) → AreKept s kept → AreKept (with_archive tail s) kept
kept_archived s tail kept are = record { stable = are.stable; records = are.records }

-- And one whose archiving was.
pub archive_done : (old new : DiskState) (before after : Log) (tail : Option ℕ) (t : State) → with_archive tail before.state.value ≡ t
    → after.state.value ≡ with_archive tail before.state.value → Holds after.state.value after → HasForgotten after.state.value after → KeepsQueue before after
    → StoredAfter old new before.state.value after.state.value before.physical after.physical → (IsSettled old → IsSettled new) → new.nature ≡ old.nature
    → IsDone old new before after t
archive_done old new before after tail t is state holds forgotten keeps stored settled nature = record {
  state = state ∙ is;
  unbroken = ap (λ (u : State). u.broken) (sym is);
  broken = keeps.broken;
  holds = holds;
  stored = stored;
  kept = λ kept. rw (state, keeps.buffers) (kept_archived before.state.value tail before.buffers kept);
  settled = settled;
  nature = nature;
  forgotten = λ _. forgotten;
}

-- the kinds of policies that are installed are those of the state
pub installed_alike : (s : State) (kind : PolicyKind) → is_installed s kind ≡ has_policy (policies_of s) kind
installed_alike s kinds.Maximum = refl
installed_alike s kinds.Minimum = refl
installed_alike s kinds.Growth = refl
installed_alike s kinds.Automatic = refl
