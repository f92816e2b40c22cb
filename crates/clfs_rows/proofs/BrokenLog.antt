-- What a step from a broken state is, and what a step that meets a fault leaves.
use Rattle.clfs_rows.proofs.Words.{◌≡◌, ◌⊎◌, ℕ, Bool, true, false, inl, inr, subst, Some, None, IsTrue, MatchBool, Call, Fine, Reply, State, refusal, Step}
use Rattle.clfs_rows.proofs.Words.{Goes, ReopenStep, IsOutOfMemory, takes_memory, with_broken}
use Rattle.clfs_model.specs.declared.reply.Happened.{Happened}
use Rattle.clfs_model.specs.declared.reply.Happened.TheVariants.{Fault, Damage}
use Rattle.clfs_model.specs.declared.refusal.Refusal.{Refusal}
use Rattle.clfs_model.specs.declared.refusal.Refusal.TheVariants as refusals
use Rattle.clfs_model.specs.declared.reply.Reply.TheVariants as replies
use Rattle.clfs_model.specs.Step.{Reopens, calls_disk}

-- the first of two facts, where the test is true
first_where_true : (b : Bool) (P Q : Type 0) → b ≡ true → MatchBool b P Q → P
first_where_true b P Q e fact = let F : Bool → Type 0 = λ c. MatchBool c P Q in subst F e fact

-- the second of two facts, where the test is false
second_where_false : (b : Bool) (P Q : Type 0) → b ≡ false → MatchBool b P Q → Q
second_where_false b P Q e fact = let F : Bool → Type 0 = λ c. MatchBool c P Q in subst F e fact

-- a broken log answers that it is broken, and stays as it is
pub broken_answers_broken : (told : Bool) (s : State) (client : ℕ) (call : Call) (happened : Happened) (reply : Reply) (t : State) → s.broken ≡ true
    → Step told s client call happened reply t → (reply ≡ replies.Refused refusals.Broken) × (t ≡ s)
unfolding Step
broken_answers_broken told s client call happened reply t broken step = first_where_true s.broken _ _ broken step

-- a step that is answered with a fault is no out of memory
of_fault : (told : Bool) (s : State) (client : ℕ) (call : Call) (t : State)
    → (IsTrue (takes_memory call) × IsOutOfMemory s (replies.Refused refusals.DiskFault) t) ⊎ Goes told s client call Fault
    (replies.Refused refusals.DiskFault) t
    → t ≡ with_broken s
of_fault told s client call t (inl (takes, (wants, same))) = absurd (cc)
of_fault told s client call t (inr (allowed, (calls, (answered, broken)))) = broken

-- a fault leaves the state as it was, but broken
pub fault_breaks : (told : Bool) (s : State) (client : ℕ) (call : Call) (t : State) → s.broken ≡ false
    → Step told s client call Fault (replies.Refused refusals.DiskFault) t → t ≡ with_broken s
unfolding Step
fault_breaks told s client call t whole step = of_fault told s client call t (second_where_false s.broken _ _ whole step)

-- a fault comes only of a call that isn't refused and that makes a call on the disk
causes_of_fault : (told : Bool) (s : State) (client : ℕ) (call : Call) (t : State)
    → (IsTrue (takes_memory call) × IsOutOfMemory s (replies.Refused refusals.DiskFault) t) ⊎ Goes told s client call Fault
    (replies.Refused refusals.DiskFault) t
    → (refusal s client call ≡ None) × IsTrue (calls_disk s call)
causes_of_fault told s client call t (inl (takes, (wants, same))) = absurd (cc)
causes_of_fault told s client call t (inr (allowed, (calls, (answered, broken)))) = (allowed, calls)

-- the causes of a step that meets a fault
fault_has_causes : (told : Bool) (s : State) (client : ℕ) (call : Call) (t : State) → s.broken ≡ false
    → Step told s client call Fault (replies.Refused refusals.DiskFault) t → (refusal s client call ≡ None) × IsTrue (calls_disk s call)
unfolding Step
fault_has_causes told s client call t whole step = causes_of_fault told s client call t (second_where_false s.broken _ _ whole step)

-- a call that makes no call on the disk meets no fault
pub no_fault_without_disk : (told : Bool) (s : State) (client : ℕ) (call : Call) (t : State) → s.broken ≡ false → calls_disk s call ≡ false
    → ¬ Step told s client call Fault (replies.Refused refusals.DiskFault) t
no_fault_without_disk told s client call t whole quiet step =
    let reaches = (fault_has_causes told s client call t whole step).1 in absurd (cc)

-- a call that is refused meets no fault
pub no_fault_where_refused : (told : Bool) (s : State) (client : ℕ) (call : Call) (first : Refusal) (t : State) → s.broken ≡ false
    → refusal s client call ≡ Some first → ¬ Step told s client call Fault (replies.Refused refusals.DiskFault) t
no_fault_where_refused told s client call first t whole refused step =
    let allowed = (fault_has_causes told s client call t whole step).0 in absurd (cc)

-- opening again leaves a broken log as it is
pub broken_is_not_opened : (told : Bool) (s : State) (happened : Happened) (reply : Reply) (t : State) → s.broken ≡ true
    → ReopenStep told s happened reply t → (reply ≡ replies.Refused refusals.Broken) × (t ≡ s)
unfolding ReopenStep
broken_is_not_opened told s happened reply t broken step = first_where_true s.broken _ _ broken step

-- what a fault in opening again leaves
of_opening_fault : (told : Bool) (s t : State)
    → IsOutOfMemory s (replies.Refused refusals.DiskFault) t ⊎ Reopens told s Fault (replies.Refused refusals.DiskFault) t → t ≡ with_broken s
of_opening_fault told s t (inl (wants, same)) = absurd (cc)
of_opening_fault told s t (inr (answered, broken)) = broken

-- a fault in opening again leaves the log broken
pub opening_fault_breaks : (told : Bool) (s t : State) → s.broken ≡ false → ReopenStep told s Fault (replies.Refused refusals.DiskFault) t → t
    ≡ with_broken s
unfolding ReopenStep
opening_fault_breaks told s t whole step = of_opening_fault told s t (second_where_false s.broken _ _ whole step)

-- what damage in opening again leaves
of_opening_damage : (told : Bool) (s : State) (container offset at : ℕ) (t : State)
    → IsOutOfMemory s (replies.Refused (refusals.Damaged container offset at)) t
    ⊎ Reopens told s Damage (replies.Refused (refusals.Damaged container offset at)) t → t ≡ with_broken s
of_opening_damage told s container offset at t (inl (wants, same)) = absurd (cc)
of_opening_damage told s container offset at t (inr (told_so, broken)) = broken

-- damage in opening again leaves the log broken
pub opening_damage_breaks : (told : Bool) (s : State) (container offset at : ℕ) (t : State) → s.broken ≡ false
    → ReopenStep told s Damage (replies.Refused (refusals.Damaged container offset at)) t → t ≡ with_broken s
unfolding ReopenStep
opening_damage_breaks told s container offset at t whole step =
    of_opening_damage told s container offset at t (second_where_false s.broken _ _ whole step)

-- what out of memory in opening again leaves
of_opening_want : (told : Bool) (s : State) (happened : Happened) (t : State)
    → IsOutOfMemory s (replies.Refused refusals.NoMemory) t ⊎ Reopens told s happened (replies.Refused refusals.NoMemory) t → t ≡ s
of_opening_want told s happened t (inl (wants, same)) = same
of_opening_want told s Fine t (inr opened) = let e = opened.flushed_part in absurd (cc)
of_opening_want told s Fault t (inr (answered, broken)) = absurd (cc)
of_opening_want told s Damage t (inr (told_so, broken)) = absurd told_so

-- out of memory in opening again changes nothing
pub opening_want_changes_nothing : (told : Bool) (s : State) (happened : Happened) (t : State) → s.broken ≡ false
    → ReopenStep told s happened (replies.Refused refusals.NoMemory) t → t ≡ s
unfolding ReopenStep
opening_want_changes_nothing told s happened t whole step = of_opening_want told s happened t (second_where_false s.broken _ _ whole step)
