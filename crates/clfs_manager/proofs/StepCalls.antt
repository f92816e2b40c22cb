-- What a call by name tells, by its step.
use Rattle.clfs_manager.proofs.Words.{◌≡◌, ◌≢◌, ℕ, Bool, true, false, sym, ap, subst, ◌∙◌, inl, inr, ◌⊎◌, Result, MatchBool, IsTrue, IfErr, IsErrOf}
use Rattle.clfs_manager.proofs.Words.{is_of_call, DiskState, Call, Refusal, Reply, State, happened_of, Step, IsBroken, IsOutOfMemory, reads_disk, calls_disk}
use Rattle.clfs_manager.proofs.Words.{Steps, WritesDisk}
use Rattle.std.proofs.Common.{Ok, Err}
use Rattle.std.specs.Prelude.{MatchResult}
use Rattle.clfs_model.specs.declared.refusal.Refusal.TheVariants as refusals
use Rattle.clfs_model.specs.declared.reply.Reply.TheVariants as replies
use Rattle.clfs_model.specs.Step.{IsDamaged}
use Rattle.clfs_manager.specs.Calls.{IsRefused, replied}
use Rattle.clfs_manager.specs.Written.{LeavesCopy}
use Rattle.clfs_manager.proofs.Intact.{writes_as, writes_nothing}
use Rattle.clfs_manager.proofs.KeptFiles.{copy_as, copy_stays}

-- an answer's reply, by the reply that has its value
pub said : {A : Type 0} (answer : A → Reply) (result : Result A Refusal) (reply : Reply)
    → MatchResult result (λ value. reply ≡ answer value) (λ refusal. reply ≡ replies.Refused refusal) → reply ≡ replied answer result
said answer (Ok value) reply is = is
said answer (Err refusal) reply is = is

-- a call by name is a step as the call is
pub stepped : {A : Type 0} (told : Bool) (s : State) (client : ℕ) (call : Call) (answer : A → Reply) (result : Result A Refusal) (reply : Reply) (t : State)
    → reply ≡ replied answer result → Steps told s client call answer result t → Step told s client call (happened_of reply) reply t
stepped told s client call answer result reply t is step = subst (λ (r : Reply). Step told s client call (happened_of r) r t) (sym is) step

-- a reply that is neither that the log is broken nor out of memory comes of a step that goes on
goes_on : (broken : Bool) (P : Type 0) (s : State) (reply : Reply) (t : State) (Q : Type 0) → reply ≢ replies.Refused refusals.Broken → reply ≢ replies.Refused refusals.NoMemory
    → MatchBool broken (IsBroken s reply t) ((P × IsOutOfMemory s reply t) ⊎ Q) → Q
goes_on true P s reply t Q unbroken memory is = absurd (unbroken is.0)
goes_on false P s reply t Q unbroken memory (inl want) = absurd (memory want.1.0)
goes_on false P s reply t Q unbroken memory (inr goes) = goes

never_true : (b : Bool) → b ≡ false → IsTrue b → ⊥
never_true b never is = let clash = sym never ∙ is in cc clash

-- no damage is told where nothing is read
step_undamaged : (told : Bool) (s : State) (client : ℕ) (call : Call) (reply : Reply) (t : State) → reads_disk call ≡ false
    → Step told s client call (happened_of reply) reply t → IsDamaged reply → ⊥
unfolding Step
step_undamaged told s client call (replies.Refused (refusals.Damaged container offset at)) t unread step is =
    let goes = goes_on s.broken _ s _ t _ (λ e. cc e) (λ e. cc e) step in never_true (reads_disk call) unread goes.1.0
step_undamaged told s client call _ t unread step is = is

pub undamaged : {A : Type 0} (told : Bool) (s : State) (client : ℕ) (call : Call) (answer : A → Reply) (result : Result A Refusal) (reply : Reply) (t : State) → reads_disk call ≡ false
    → reply ≡ replied answer result → Steps told s client call answer result t → IsDamaged reply → ⊥
undamaged told s client call answer result reply t unread is step damaged = step_undamaged told s client call (replied answer result) t unread step (subst IsDamaged is damaged)

-- no fault is told where the disk isn't called
step_unfaulted : (told : Bool) (s : State) (client : ℕ) (call : Call) (reply : Reply) (t : State) → calls_disk s call ≡ false
    → Step told s client call (happened_of reply) reply t → reply ≡ replies.Refused refusals.DiskFault → ⊥
unfolding Step
step_unfaulted told s client call reply t uncalled step is =
    let faulted = subst (λ (r : Reply). Step told s client call (happened_of r) r t) is step in
    let goes = goes_on s.broken _ s _ t _ (λ e. cc e) (λ e. cc e) faulted in never_true (calls_disk s call) uncalled goes.1.0

-- a call that has nothing of the disk leaves it as it was
pub still : {A : Type 0} (told : Bool) (s : State) (client : ℕ) (call : Call) (answer : A → Reply) (result : Result A Refusal) (reply : Reply) (t : State) (disk : DiskState)
    → calls_disk s call ≡ false → reply ≡ replied answer result → Steps told s client call answer result t → WritesDisk (reply ≡ replies.Refused refusals.DiskFault) disk disk
still told s client call answer result reply t disk uncalled is step =
    writes_nothing (reply ≡ replies.Refused refusals.DiskFault) disk (λ fault. step_unfaulted told s client call (replied answer result) t uncalled step (sym is ∙ fault))

-- a fault, as the reply has it
fault_said : {A : Type 0} (answer : A → Reply) (result : Result A Refusal) → IsErrOf result refusals.DiskFault → replied answer result ≡ replies.Refused refusals.DiskFault
fault_said answer (Ok value) fault = absurd (cc fault)
fault_said answer (Err refusal) fault = let same : refusal ≡ refusals.DiskFault = cc fault in ap (λ (r : Refusal). replies.Refused r) same

-- a call that may write, by its reply
pub written : {A : Type 0} (answer : A → Reply) (result : Result A Refusal) (reply : Reply) (old new : DiskState) → ((x : A) → answer x ≢ replies.Refused refusals.DiskFault)
    → reply ≡ replied answer result → WritesDisk (IsErrOf result refusals.DiskFault) old new → WritesDisk (reply ≡ replies.Refused refusals.DiskFault) old new
written {A} answer result reply old new never is writes = writes_as _ _ old new (λ fault. is ∙ fault_said answer result fault) (λ fault. from result (sym is ∙ fault)) writes
  where
    from : (r : Result A Refusal) → replied answer r ≡ replies.Refused refusals.DiskFault → IsErrOf r refusals.DiskFault
    from (Ok x) fault = absurd (never x fault)
    from (Err refusal) fault = cc fault

-- What holds where memory ran out for a call, holds where a reply tells so.
pub no_memory_by : {A : Type 0} {P : Type 0} (answer : A → Reply) (result : Result A Refusal) (reply : Reply) → ((x : A) → answer x ≢ replies.Refused refusals.NoMemory)
    → reply ≡ replied answer result → (IsErrOf result refusals.NoMemory → P) → reply ≡ replies.Refused refusals.NoMemory → P
no_memory_by answer (Ok x) reply never is holds told = absurd (never x (sym is ∙ told))
no_memory_by answer (Err refusal) reply never is holds told = holds (cc (is, told))

-- What holds of a call's refusal, holds of the refusal that a reply tells.
pub place_by : {A : Type 0} (P : Refusal → Type 0) (answer : A → Reply) (result : Result A Refusal) (reply : Reply) → ((x : A) (given : Refusal) → answer x ≢ replies.Refused given)
    → reply ≡ replied answer result → IfErr result P → (given : Refusal) → reply ≡ replies.Refused given → P given
place_by P answer (Ok x) reply never is holds given told = absurd (never x given (sym is ∙ told))
place_by P answer (Err refusal) reply never is holds given told = let same : refusal ≡ given = cc (is, told) in subst P same holds

-- What a call keeps that is refused for what was asked, a reply of that kind tells too.
pub refused_by : {A : Type 0} {P : Type 0} (answer : A → Reply) (result : Result A Refusal) (reply : Reply) → ((x : A) → IsRefused (answer x) → ⊥)
    → reply ≡ replied answer result → IfErr result (λ refusal. is_of_call refusal ≡ true → P) → IsRefused reply → P
refused_by answer (Ok x) reply never is keeps refused = absurd (never x (subst IsRefused is refused))
refused_by answer (Err refusal) reply never is keeps refused = keeps (subst IsRefused is refused)

-- what it leaves of the newest copy, by its reply
pub copied : {A : Type 0} (answer : A → Reply) (result : Result A Refusal) (reply : Reply) (old new : DiskState) → reply ≡ replied answer result
    → LeavesCopy (IsErrOf result refusals.DiskFault) old new → LeavesCopy (reply ≡ replies.Refused refusals.DiskFault) old new
copied answer result reply old new is copy = copy_as _ _ old new (λ fault. is ∙ fault_said answer result fault) copy

-- a call that leaves the disk as it was writes no copy
pub copy_same : {D : Type 0} (state : D → DiskState) (fault : Type 0) (old new : D) → new ≡ old → LeavesCopy fault (state old) (state new)
copy_same {D} state fault old new same = subst (λ (d : D). LeavesCopy fault (state old) (state d)) (sym same) (copy_stays fault (state old))
