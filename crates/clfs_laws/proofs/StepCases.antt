-- A step is one of five ways, and what each leaves.
use Rattle.clfs_laws.proofs.Words.{◌≡◌, ℕ, Bool, true, false, refl, sym, ◌∙◌, inl, inr, ◌⊎◌, subst, Option, Some, None, MatchBool, MatchOption, IsTrue, Call}
use Rattle.clfs_laws.proofs.Words.{Refusal, Happened, Fine, Fault, Damage, Reply, State, happened_of_refusal, flushed, refusal, answer, Step, Goes, Comes}
use Rattle.clfs_laws.proofs.Words.{IsReply, IsBroken, IsOutOfMemory, IsDamaged, takes_memory}
use Rattle.clfs_model.specs.declared.refusal.Refusal.TheVariants as refusals
use Rattle.clfs_model.specs.declared.reply.Reply.TheVariants as replies
use Rattle.clfs_laws.proofs.Answered.{answer_keeps}

-- the fact that belongs to a test's case
at_true : (b : Bool) (P Q : Type 0) → b ≡ true → MatchBool b P Q → P
at_true b P Q e h = let F : Bool → Type 0 = λ c. MatchBool c P Q in subst F e h

at_false : (b : Bool) (P Q : Type 0) → b ≡ false → MatchBool b P Q → Q
at_false b P Q e h = let F : Bool → Type 0 = λ c. MatchBool c P Q in subst F e h

-- a step from a log that is broken, and from one that isn't
pub broken_step : (told : Bool) (s : State) (client : ℕ) (call : Call) (happened : Happened) (reply : Reply) (t : State)
    → s.broken ≡ true → Step told s client call happened reply t → IsBroken s reply t
unfolding Step
broken_step told s client call happened reply t broken step = at_true s.broken _ _ broken step

pub whole_step : (told : Bool) (s : State) (client : ℕ) (call : Call) (happened : Happened) (reply : Reply) (t : State)
    → s.broken ≡ false → Step told s client call happened reply t
    → (IsTrue (takes_memory call) × IsOutOfMemory s reply t) ⊎ Goes told s client call happened reply t
unfolding Step
whole_step told s client call happened reply t whole step = at_false s.broken _ _ whole step

-- what the machine's reply is where a refusal is given
pub given_refusal : (told : Bool) (stable : ℕ) (answered : Reply) (given : Refusal) → IsReply told stable answered (replies.Refused given) → answered ≡ replies.Refused given
given_refusal true stable answered given is = sym is
given_refusal false stable (replies.Found cursor entry) given is = absurd (let e : replies.Refused given ≡ replies.Found cursor is.0 = is.1.1 in cc)
given_refusal false stable (replies.Next entry) given is = absurd (let e : replies.Refused given ≡ replies.Next is.0 = is.1.1 in cc)
given_refusal false stable (replies.Stream number) given is = sym is
given_refusal false stable (replies.Area number) given is = sym is
given_refusal false stable replies.Done given is = sym is
given_refusal false stable (replies.Held sectors) given is = sym is
given_refusal false stable (replies.Sectors sectors) given is = sym is
given_refusal false stable (replies.Placed lsn) given is = sym is
given_refusal false stable (replies.Flushed lsn) given is = sym is
given_refusal false stable (replies.Base lsn) given is = sym is
given_refusal false stable (replies.Tail lsn) given is = sym is
given_refusal false stable (replies.Extents extents) given is = sym is
given_refusal false stable (replies.Containers containers) given is = sym is
given_refusal false stable (replies.Info info) given is = sym is
given_refusal false stable (replies.Refused refusal) given is = sym is

-- damage is told as damage
pub damage_told : (given : Refusal) → IsDamaged (replies.Refused given) → happened_of_refusal given ≡ Damage
damage_told (refusals.Damaged container offset at) is = refl
damage_told _ is = absurd is

-- where nothing happened, a refusal changes nothing
fine_keeps : (told : Bool) (s : State) (client : ℕ) (call : Call) (given : Refusal) (t : State) (first : Option Refusal)
    → MatchOption first (Comes told (flushed s) (answer s client call) (replies.Refused given) t) (λ r. (replies.Refused given ≡ replies.Refused r) × (t ≡ s)) → t ≡ s
fine_keeps told s client call given t None comes = comes.1 ∙ answer_keeps s client call given (given_refusal told (flushed s) (answer s client call).reply given comes.0)
fine_keeps told s client call given t (Some first) comes = comes.1

goes_keeps : (told : Bool) (s : State) (client : ℕ) (call : Call) (happened : Happened) (given : Refusal) (t : State)
    → Goes told s client call happened (replies.Refused given) t → happened_of_refusal given ≡ Fine → t ≡ s
goes_keeps told s client call Fine given t goes fine = fine_keeps told s client call given t (refusal s client call) goes
goes_keeps told s client call Fault given t goes fine =
    let reply : replies.Refused given ≡ replies.Refused refusals.DiskFault = goes.1.1.0 in
    let is : given ≡ refusals.DiskFault = cc in
    absurd (let wrong : Fault ≡ Fine = rw is at fine in cc)
goes_keeps told s client call Damage given t goes fine =
    let told_damage : happened_of_refusal given ≡ Damage = damage_told given goes.1.1.0 in absurd (cc)

keeps_by : (told : Bool) (s : State) (client : ℕ) (call : Call) (happened : Happened) (given : Refusal) (t : State) (broken : Bool) → s.broken ≡ broken
    → Step told s client call happened (replies.Refused given) t → happened_of_refusal given ≡ Fine → t ≡ s
keeps_by told s client call happened given t true is step fine = (broken_step told s client call happened _ t is step).1
keeps_by told s client call happened given t false is step fine = elim (whole_step told s client call happened _ t is step) [
  | inl want ↦ want.1.1
  | inr goes ↦ goes_keeps told s client call happened given t goes fine
]

-- after a refusal other than for a disk fault or damage the log is as it was
pub refusal_keeps : (told : Bool) (s : State) (client : ℕ) (call : Call) (happened : Happened) (given : Refusal) (t : State)
    → Step told s client call happened (replies.Refused given) t → happened_of_refusal given ≡ Fine → t ≡ s
refusal_keeps told s client call happened given t step fine = keeps_by told s client call happened given t s.broken refl step fine
