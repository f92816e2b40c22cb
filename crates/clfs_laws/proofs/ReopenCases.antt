-- What opening again leaves, case by case.
use Rattle.clfs_laws.proofs.Words.{◌≡◌, Bool, true, false, sym, ap, ◌∙◌, ◌⊎◌, inl, inr, ℕ, [], MatchBool, Refusal, Happened, Fine, Fault, Damage, Reply}
use Rattle.clfs_laws.proofs.Words.{State, happened_of, happened_of_refusal, flushed, cut, IsSame, ReopenStep, Reopens, IsOpenedAnew, IsBroken, IsOutOfMemory}
use Rattle.clfs_model.specs.declared.refusal.Refusal.TheVariants as refusals
use Rattle.clfs_model.specs.declared.reply.Reply.TheVariants as replies
use Rattle.clfs_laws.proofs.StepCases.{damage_told}

refused_as : (a b : Refusal) → replies.Refused a ≡ replies.Refused b → a ≡ b
refused_as a b e = cc

keeps : (told : Bool) (s : State) (happened : Happened) (given : Refusal) (t : State) → Reopens told s happened (replies.Refused given) t
    → happened_of_refusal given ≡ Fine → t ≡ s
keeps told s Fine given t is fine = absurd (let wrong : replies.Refused given ≡ replies.Flushed (flushed t) = is.flushed_part in cc)
keeps told s Fault given t is fine =
    let same : given ≡ refusals.DiskFault = refused_as given refusals.DiskFault is.0 in
    absurd (let wrong : Fault ≡ Fine = sym (ap happened_of_refusal same) ∙ fine in cc)
keeps told s Damage given t is fine = absurd (let wrong : Damage ≡ Fine = sym (damage_told given is.0) ∙ fine in cc)

keeps_by : (told : Bool) (s : State) (happened : Happened) (given : Refusal) (t : State) (broken : Bool)
    → MatchBool broken (IsBroken s (replies.Refused given) t) (IsOutOfMemory s (replies.Refused given) t ⊎ Reopens told s happened (replies.Refused given) t)
    → happened_of_refusal given ≡ Fine → t ≡ s
keeps_by told s happened given t true is fine = is.1
keeps_by told s happened given t false (inl want) fine = want.1
keeps_by told s happened given t false (inr reopens) fine = keeps told s happened given t reopens fine

-- after a refusal other than for a disk fault or damage the log is as it was
pub reopening_keeps : (told : Bool) (s : State) (happened : Happened) (given : Refusal) (t : State) → ReopenStep told s happened (replies.Refused given) t
    → happened_of_refusal given ≡ Fine → t ≡ s
unfolding ReopenStep
reopening_keeps told s happened given t step fine = keeps_by told s happened given t s.broken step fine

breaks : (told : Bool) (s : State) (happened : Happened) (reply : Reply) (t : State) → Reopens told s happened reply t
    → (happened_of reply ≡ Fine → ⊥) → t.broken ≡ true
breaks told s Fine reply t is not_fine = absurd (not_fine (ap happened_of is.flushed_part))
breaks told s Fault reply t is not_fine = ap (λ (x : State). x.broken) is.1
breaks told s Damage reply t is not_fine = ap (λ (x : State). x.broken) is.1

breaks_by : (told : Bool) (s : State) (happened : Happened) (reply : Reply) (t : State) (broken : Bool)
    → MatchBool broken (IsBroken s reply t) (IsOutOfMemory s reply t ⊎ Reopens told s happened reply t)
    → (happened_of reply ≡ Fine → ⊥) → t.broken ≡ true
breaks_by told s happened reply t true is not_fine = absurd (not_fine (ap happened_of is.0))
breaks_by told s happened reply t false (inl want) not_fine = absurd (not_fine (ap happened_of want.0))
breaks_by told s happened reply t false (inr reopens) not_fine = breaks told s happened reply t reopens not_fine

-- after a fault or damage it is broken
pub reopening_breaks : (told : Bool) (s : State) (happened : Happened) (reply : Reply) (t : State) → ReopenStep told s happened reply t
    → (happened_of reply ≡ Fine → ⊥) → t.broken ≡ true
unfolding ReopenStep
reopening_breaks told s happened reply t step not_fine = breaks_by told s happened reply t s.broken step not_fine

broken_by : (P Q : Type 0) (broken : Bool) → broken ≡ true → MatchBool broken P Q → P
broken_by P Q true is step = step
broken_by P Q false is step = absurd (cc)

-- a broken log isn't opened again
pub reopening_broken : (told : Bool) (s : State) (happened : Happened) (reply : Reply) (t : State) → s.broken ≡ true → ReopenStep told s happened reply t
    → IsBroken s reply t
unfolding ReopenStep
reopening_broken told s happened reply t broken step = broken_by _ _ s.broken broken step

areas_end : (told : Bool) (s t : State) → MatchBool told ((flushed t ≡ flushed s) × IsSame (cut s) t) (IsOpenedAnew s t) → t.areas ≡ []
areas_end true s t is = ap (λ (x : State). x.areas) is.1.others
areas_end false s t is = is.0

ends : (told : Bool) (s : State) (happened : Happened) (lsn : ℕ) (t : State) → Reopens told s happened (replies.Flushed lsn) t → t.areas ≡ []
ends told s Fine lsn t is = areas_end told s t is.read
ends told s Fault lsn t is = absurd (let wrong : replies.Flushed lsn ≡ replies.Refused refusals.DiskFault = is.0 in cc)
ends told s Damage lsn t is = absurd is.0

ends_by : (told : Bool) (s : State) (happened : Happened) (lsn : ℕ) (t : State) (broken : Bool)
    → MatchBool broken (IsBroken s (replies.Flushed lsn) t) (IsOutOfMemory s (replies.Flushed lsn) t ⊎ Reopens told s happened (replies.Flushed lsn) t)
    → t.areas ≡ []
ends_by told s happened lsn t true is = absurd (let wrong : replies.Flushed lsn ≡ replies.Refused refusals.Broken = is.0 in cc)
ends_by told s happened lsn t false (inl want) = absurd (let wrong : replies.Flushed lsn ≡ replies.Refused refusals.NoMemory = want.0 in cc)
ends_by told s happened lsn t false (inr reopens) = ends told s happened lsn t reopens

-- a log that was opened again has no areas
pub reopening_ends : (told : Bool) (s : State) (happened : Happened) (lsn : ℕ) (t : State) → ReopenStep told s happened (replies.Flushed lsn) t → t.areas ≡ []
unfolding ReopenStep
reopening_ends told s happened lsn t step = ends_by told s happened lsn t s.broken step
