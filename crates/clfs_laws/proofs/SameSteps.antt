-- States that are the same answer each call alike, and what they come to is the same again.
use Rattle.clfs_laws.proofs.Words.{◌≡◌, ℕ, Bool, true, false, refl, sym, ap, ◌∙◌, subst, inl, inr, ◌⊎◌, ◌++◌, Option, Some, None, MatchBool, MatchOption}
use Rattle.clfs_laws.proofs.Words.{IsTrue, Call, Refusal, Happened, Fine, Fault, Damage, Reply, State, flushed, IsSame, extents, refusal, answer, Step, Goes}
use Rattle.clfs_laws.proofs.Words.{Comes, IsReply, IsBroken, IsOutOfMemory, takes_memory, calls_disk, with_broken, IsValid, HasSpaceLaws}
use Rattle.clfs_model.specs.declared.reply.Reply.TheVariants as replies
use Rattle.clfs_laws.proofs.AlikeAnswers.{AnswersAlike, answers_alike}
use Rattle.clfs_laws.proofs.AlikeRefusals.{LooksAlike, refusal_alike, disk_alike}
use Rattle.clfs_laws.proofs.HoldRuns.{container_rises}
use Rattle.clfs_laws.proofs.SameExtents.{extents_same}
use Rattle.clfs_laws.proofs.SameReading.{next_same}
use Rattle.clfs_laws.proofs.SameRecords.{with_records, hold_same, live_of_same, same_onward}
use Rattle.clfs_laws.proofs.StepCases.{broken_step, whole_step}

-- what holds of each state that differs in records alone holds of one that is the same
at_records : (P : State → Type 0) (s u : State) → IsSame s u → P (with_records u.records s) → P u
at_records P s u same is = subst P (sym same.others) is

-- calls see nothing of valid states that are the same but what they have in common
looks_alike : (s u : State) → IsValid s → IsValid u → IsSame s u → LooksAlike s u
looks_alike s u valid valid_u same = record {
  same_hold = hold_same s u same;
  same_live = λ stream. live_of_same s u stream same;
  same_next = λ stream mode last. next_same s u stream mode last valid valid_u same;
  same_extents =
      let P : State → Type 0 = λ x. IsSame s x → extents x ≡ extents s in
      at_records P s u same (λ is. extents_same s u.records is) same;
}

-- so a call meets the same first refusal in both
pub refusal_same : (s u : State) (client : ℕ) (call : Call) → IsValid s → IsValid u → IsSame s u → refusal s client call ≡ refusal u client call
refusal_same s u client call valid valid_u same =
    let P : State → Type 0 = λ x. LooksAlike s x → refusal s client call ≡ refusal x client call in
    at_records P s u same (λ alike. sym (refusal_alike s u.records client call alike)) (looks_alike s u valid valid_u same)

-- and calls the disk in both or in neither
pub disk_same : (s u : State) (call : Call) → IsValid s → IsValid u → IsSame s u → calls_disk s call ≡ calls_disk u call
disk_same s u call valid valid_u same =
    let P : State → Type 0 = λ x. LooksAlike s x → calls_disk s call ≡ calls_disk x call in
    at_records P s u same (λ alike. sym (disk_alike s u.records call alike)) (looks_alike s u valid valid_u same)

answer_same : (s u : State) (client : ℕ) (call : Call) → IsValid s → IsValid u → IsSame s u
    → AnswersAlike s u.records (answer s client call) (answer u client call)
answer_same s u client call valid valid_u same =
    let P : State → Type 0 = λ x. LooksAlike s x → AnswersAlike s u.records (answer s client call) (answer x client call) in
    at_records P s u same (λ alike. answers_alike s u.records client call alike) (looks_alike s u valid valid_u same)

-- the fact that belongs to a test's case, and to an option's
to_true : (b : Bool) (P Q : Type 0) → b ≡ true → P → MatchBool b P Q
to_true b P Q e p = let F : Bool → Type 0 = λ c. MatchBool c P Q in subst F (sym e) p

to_false : (b : Bool) (P Q : Type 0) → b ≡ false → Q → MatchBool b P Q
to_false b P Q e q = let F : Bool → Type 0 = λ c. MatchBool c P Q in subst F (sym e) q

to_option : {A : Type 0} (found given : Option A) (P : Type 0) (Q : A → Type 0) → found ≡ given → MatchOption given P Q → MatchOption found P Q
to_option {A} found given P Q e q = let F : Option A → Type 0 = λ c. MatchOption c P Q in subst F (sym e) q

-- a step of a log that is broken, and of one that isn't
to_broken : (told : Bool) (s : State) (client : ℕ) (call : Call) (happened : Happened) (reply : Reply) (t : State) → s.broken ≡ true
    → IsBroken s reply t → Step told s client call happened reply t
unfolding Step
to_broken told s client call happened reply t broken is = to_true s.broken _ _ broken is

to_whole : (told : Bool) (s : State) (client : ℕ) (call : Call) (happened : Happened) (reply : Reply) (t : State) → s.broken ≡ false
    → (IsTrue (takes_memory call) × IsOutOfMemory s reply t) ⊎ Goes told s client call happened reply t → Step told s client call happened reply t
unfolding Step
to_whole told s client call happened reply t whole is = to_false s.broken _ _ whole is

-- a step from u with the same reply, and to a state that is the same
abbrev StepsAlike : Bool → State → ℕ → Call → Happened → Reply → State → Type 0
StepsAlike told u client call happened reply t = (v : State) × (Step told u client call happened reply v × IsSame t v)

-- another name for the first state
same_as : (s t u : State) → t ≡ s → IsSame s u → IsSame t u
same_as s t u is same = let F : State → Type 0 = λ x. IsSame x u in subst F (sym is) same

-- a step that leaves the state
stays : (told : Bool) (s u : State) (client : ℕ) (call : Call) (happened : Happened) (reply : Reply) (t : State) → IsSame s u → t ≡ s
    → Step told u client call happened reply u → StepsAlike told u client call happened reply t
stays told s u client call happened reply t same is step = (u, (step, same_as s t u is same))

pub broken_same : (s u : State) → IsSame s u → IsSame (with_broken s) (with_broken u)
broken_same s u same = record { hold = same.hold; records = same.records; others = ap with_broken same.others }

-- a step that breaks the log
breaks : (told : Bool) (s u : State) (client : ℕ) (call : Call) (happened : Happened) (reply : Reply) (t : State) → IsSame s u → t ≡ with_broken s
    → Step told u client call happened reply (with_broken u) → StepsAlike told u client call happened reply t
breaks told s u client call happened reply t same is step = (with_broken u, (step, same_as (with_broken s) t (with_broken u) is (broken_same s u same)))

-- the reply of one may be the other's
reply_as : (told : Bool) (stable other : ℕ) (answered given reply : Reply) → other ≡ stable → given ≡ answered → IsReply told stable answered reply
    → IsReply told other given reply
reply_as told stable other answered given reply same_stable same is =
    let F : ℕ → Type 0 = λ n. IsReply told n answered reply in
    let G : Reply → Type 0 = λ r. IsReply told other r reply in
    subst G (sym same) (subst F (sym same_stable) is)

-- a call that is answered
answered_alike : HasSpaceLaws → (told : Bool) (s u : State) (client : ℕ) (call : Call) (reply : Reply) (t : State) → IsValid s → IsValid u → IsSame s u
    → u.broken ≡ false
    → Step told s client call Fine reply t → refusal s client call ≡ None → Comes told (flushed s) (answer s client call) reply t
    → StepsAlike told u client call Fine reply t
answered_alike space told s u client call reply t valid valid_u same whole step none comes =
    let v : State = (answer u client call).state in
    let alike = answer_same s u client call valid valid_u same in
    let same_flushed : flushed u ≡ flushed s = ap flushed same.others in
    let given : Comes told (flushed u) (answer u client call) reply v =
    (reply_as told (flushed s) (flushed u) (answer s client call).reply (answer u client call).reply reply same_flushed alike.same_reply comes.0, refl) in
    let passes : refusal u client call ≡ None = sym (refusal_same s u client call valid valid_u same) ∙ none in
    let other : Step told u client call Fine reply v =
    to_whole told u client call Fine reply v whole (inr (to_option (refusal u client call) None _ _ passes given)) in
    let joined : t.records ≡ s.records ++ alike.more = ap (λ (x : State). x.records) comes.1 ∙ alike.joined in
    let others : v ≡ with_records (u.records ++ alike.more) t = alike.others ∙ ap (with_records (u.records ++ alike.more)) (sym comes.1) in (
      v,
      (
        other,
        same_onward s u t v alike.more same joined others (container_rises space told s client call Fine reply t valid step)
            (container_rises space told u client call Fine reply v valid_u other),
      ),
    )

-- a call where nothing happens
fine_alike : HasSpaceLaws → (told : Bool) (s u : State) (client : ℕ) (call : Call) (reply : Reply) (t : State) (first : Option Refusal) → IsValid s → IsValid u
    → IsSame s u
    → u.broken ≡ false → Step told s client call Fine reply t → refusal s client call ≡ first
    → MatchOption first (Comes told (flushed s) (answer s client call) reply t) (λ r. (reply ≡ replies.Refused r) × (t ≡ s))
    → StepsAlike told u client call Fine reply t
fine_alike space told s u client call reply t None valid valid_u same whole step is comes =
    answered_alike space told s u client call reply t valid valid_u same whole step is comes
fine_alike space told s u client call reply t (Some first) valid valid_u same whole step is comes =
    let refused : refusal u client call ≡ Some first = sym (refusal_same s u client call valid valid_u same) ∙ is in
    stays told s u client call Fine reply t same comes.1
    (to_whole told u client call Fine reply u whole (inr (to_option (refusal u client call) (Some first) _ _ refused (comes.0, refl))))

-- a step that isn't stopped because memory ran out
goes_alike : HasSpaceLaws → (told : Bool) (s u : State) (client : ℕ) (call : Call) (happened : Happened) (reply : Reply) (t : State) → IsValid s → IsValid u
    → IsSame s u
    → u.broken ≡ false → Step told s client call happened reply t → Goes told s client call happened reply t
    → StepsAlike told u client call happened reply t
goes_alike space told s u client call Fine reply t valid valid_u same whole step goes =
    fine_alike space told s u client call reply t (refusal s client call) valid valid_u same whole step refl goes
goes_alike space told s u client call Fault reply t valid valid_u same whole step goes =
    let passes : refusal u client call ≡ None = sym (refusal_same s u client call valid valid_u same) ∙ goes.0 in
    let F : Bool → Type 0 = λ calls. IsTrue calls in
    let calls = subst F (disk_same s u call valid valid_u same) goes.1.0 in
    breaks told s u client call Fault reply t same goes.1.1.1
    (to_whole told u client call Fault reply (with_broken u) whole (inr (passes, (calls, (goes.1.1.0, refl)))))
goes_alike space told s u client call Damage reply t valid valid_u same whole step goes =
    let passes : refusal u client call ≡ None = sym (refusal_same s u client call valid valid_u same) ∙ goes.0 in
    breaks told s u client call Damage reply t same goes.1.1.1
    (to_whole told u client call Damage reply (with_broken u) whole (inr (passes, (goes.1.0, (goes.1.1.0, refl)))))

steps_by : HasSpaceLaws → (told : Bool) (s u : State) (client : ℕ) (call : Call) (happened : Happened) (reply : Reply) (t : State) (broken : Bool) → s.broken ≡ broken
    → IsValid s → IsValid u → IsSame s u → Step told s client call happened reply t → StepsAlike told u client call happened reply t
steps_by space told s u client call happened reply t true is valid valid_u same step =
    let broken = broken_step told s client call happened reply t is step in
    let other : u.broken ≡ true = ap (λ (x : State). x.broken) same.others ∙ is in
    stays told s u client call happened reply t same broken.1 (to_broken told u client call happened reply u other (broken.0, refl))
steps_by space told s u client call happened reply t false is valid valid_u same step =
    let other : u.broken ≡ false = ap (λ (x : State). x.broken) same.others ∙ is in
    elim (whole_step told s client call happened reply t is step) [
      | inl want ↦ stays told s u client call happened reply t same want.1.1
          (to_whole told u client call happened reply u other (inl (want.0, (want.1.0, refl))))
      | inr goes ↦ goes_alike space told s u client call happened reply t valid valid_u same other step goes
    ]

-- each step of one is a step of the other
pub steps_alike : HasSpaceLaws → (told : Bool) (s u : State) (client : ℕ) (call : Call) (happened : Happened) (reply : Reply) (t : State)
    → IsValid s → IsValid u → IsSame s u → Step told s client call happened reply t
    → (v : State) × (Step told u client call happened reply v × IsSame t v)
steps_alike space told s u client call happened reply t valid valid_u same step =
    steps_by space told s u client call happened reply t s.broken refl valid valid_u same step
