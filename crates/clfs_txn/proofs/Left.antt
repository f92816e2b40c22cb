-- What a crash leaves of a log, and with it of the log's table.
use Rattle.clfs_txn.proofs.Words.{◌≡◌, ◌⊎◌, ℕ, true, List, inl, inr, sym, ◌∙◌, Files, State, Plan, ends, calls, never, table, LeavesTables, HoldsTable}
use Rattle.clfs_txn.proofs.Words.{HoldsLeft, IsLeftMeanwhile, LeavesCalls, UnderWay}
use Rattle.clfs_model.specs.Flush.{IsSame}
use Rattle.clfs_txn.specs.UnderWay.{IsLeftBy, IsLeftIn}

-- logs that are the same have the same table
abbrev pub SameTable : Type 0
SameTable = (s t : State) → IsSame s t → table s ≡ table t

-- what survives in a plan's calls is left in each of them
pub along_left : {A : Type 0} (under : UnderWay) (client : ℕ) (log : State) (plan : Plan A) → ((x : State) → IsLeftIn client log plan x → IsLeftMeanwhile under x)
    → LeavesCalls under true client log plan
along_left under client log (ends value) goes = tt
along_left under client log (calls call rest) goes = (
  λ whole x survives. goes x (inl (whole, survives)),
  λ happened reply mid step. along_left under client mid (rest reply) (λ x left. goes x (inr (happened, reply, mid, (step, left)))),
)
along_left under client log never goes = tt

-- it has one of the tables that are left in each
pub left_has_table : {A : Type 0} (before after : List ℕ) (client : ℕ) (log : State) (plan : Plan A) → LeavesTables before after true client log plan → (x : State)
    → IsLeftIn client log plan x → (table x ≡ before) ⊎ (table x ≡ after)
left_has_table before after client log (ends value) along x left = absurd left
left_has_table before after client log (calls call rest) along x (inl here) = along.0 here.0 x here.1
left_has_table before after client log (calls call rest) along x (inr (happened, reply, mid, (step, later))) =
    left_has_table before after client mid (rest reply) (along.1 happened reply mid step) x later
left_has_table before after client log never along x left = absurd left

-- so do the files that stand for it
pub table_held : (before after : List ℕ) (under : UnderWay) → SameTable → ((x : State) → IsLeftMeanwhile under x → (table x ≡ before) ⊎ (table x ≡ after))
    → ((x : State) → IsLeftMeanwhile under x → IsLeftBy under x) → (files : Files) → HoldsLeft under files → HoldsTable before after under files
table_held before after under same has by files held = record {
  log = held.opened;
  stands = held.stands;
  either = elim (has held.survivor held.left) [
    | inl first ↦ inl (sym (same held.survivor held.opened held.same) ∙ first)
    | inr second ↦ inr (sym (same held.survivor held.opened held.same) ∙ second)
  ];
  survivor = held.survivor;
  left = by held.survivor held.left;
  same = held.same;
}
