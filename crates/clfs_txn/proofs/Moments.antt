-- What crashes leave of a table while a store's calls of the log are made, one after the other.
use Rattle.clfs_txn.proofs.Words.{◌≡◌, ◌⊎◌, ℕ, ◌<◌, ◌≤◌, Bool, false, inl, inr, refl, sym, subst, ◌∙◌, arith, IsTrue, cases_lt, Files, Unchanged, DiskState}
use Rattle.clfs_txn.proofs.Words.{Leaves, MayLeave, Nature, Passes, Call, Reply, State, Survives, CrashSurvives, HoldSurvivor, Plan, calls, LeadsTo}
use Rattle.clfs_txn.proofs.Words.{CrashLeaves, HoldsLeft, IsLeftMeanwhile, LeavesCall, Meanwhile, UnderWay}
use Rattle.clfs_disk.specs.State.{IsHonest}
use Rattle.clfs_model.specs.Run.{Request, asks}

-- ---- moments

pub leaves_then : (P : Files → Type 0) (a b c : DiskState) → Leaves P a b → Leaves P b c → Leaves P a c
leaves_then P a b c first next = record {
  later = omega (arith, first.later, next.later);
  past = λ moment image le at. first.past moment image le (next.past moment image (omega (arith, le, first.later)) at);
  each = λ moment image from to at. elim (cases_lt b.clock moment) [
    | inl after ↦ next.each moment image (omega (arith, after)) to at
    | inr before ↦ first.each moment image from before (next.past moment image before at)
  ];
}

-- the last moment
pub leaves_now : (P : Files → Type 0) (a b : DiskState) → Leaves P a b → Leaves P b b
leaves_now P a b l = record {
  later = omega arith;
  past = λ moment image le at. at;
  each = λ moment image from to at. l.each moment image (omega (arith, l.later, from)) to at;
}

pub leaves_weaker : (P Q : Files → Type 0) (a b : DiskState) → ((image : Files) → P image → Q image) → Leaves P a b → Leaves Q a b
leaves_weaker P Q a b to l = record {
  later = l.later;
  past = l.past;
  each = λ moment image from until at. to image (l.each moment image from until at);
}

pub honest_on : (a b : DiskState) → b.nature ≡ a.nature → IsHonest a → IsHonest b
honest_on a b same honest = subst (λ (n : Nature). IsTrue n.tells_contents × IsTrue n.tells_images) (sym same) honest

nothing_passes : (disk : DiskState) → Passes Unchanged disk disk
nothing_passes disk = record {
  later = omega arith;
  past = λ moment image le at. at;
  kept = λ moment image le at. at;
  images = λ moment image after until at. absurd (omega (arith, after, until));
  faults = omega arith;
  nature = refl;
}

-- ---- one call of the log

-- what a survivor's files hold
holds : (under : UnderWay) (asked : Request) (s : State) → ((x : State) → Survives asked s x → IsLeftMeanwhile under x)
    → (image : Files) → HoldSurvivor false asked s image → HoldsLeft under image
holds under asked s left image held = record {
  survivor = held.survivor;
  left = left held.survivor held.survives;
  opened = held.opened;
  stands = held.stands;
  same = held.same;
}

-- a request that is under way
pub asked_leaves : (under : UnderWay) (asked : Request) (s : State) (old new : DiskState) → ((x : State) → Survives asked s x → IsLeftMeanwhile under x)
    → s.broken ≡ false → CrashSurvives asked s old new → CrashLeaves under old new
asked_leaves under asked s old new left whole survives honest =
    leaves_weaker (HoldSurvivor false asked s) (HoldsLeft under) old new (holds under asked s left) (survives whole honest false (λ full. absurd (cc full)))

-- the same by other names of the log, of the call and of the disk
pub call_leaves : {X : Type 0} (state : X → DiskState) (under : UnderWay) (client other : ℕ) (call asked : Call) (s t : State) (d e : X) (new : DiskState)
    → client ≡ other → call ≡ asked → s ≡ t → d ≡ e → t.broken ≡ false → CrashSurvives (asks client call) s (state d) new → LeavesCall under other asked t
    → CrashLeaves under (state e) new
call_leaves state under client other call asked s t d e new p q r disk whole survives left =
    let by_state = subst (λ (x : State). CrashSurvives (asks client call) x (state d) new) r survives in
    let by_call = subst (λ (x : Call). CrashSurvives (asks client x) t (state d) new) q by_state in
    let by_client = subst (λ (x : ℕ). CrashSurvives (asks x asked) t (state d) new) p by_call in
    asked_leaves under (asks other asked) t (state e) new left whole (subst (λ x. CrashSurvives (asks other asked) t (state x) new) disk by_client)

-- no call of the log was made
pub none_leaves : {X : Type 0} (state : X → DiskState) (under : UnderWay) (client : ℕ) (call : Call) (s t : State) (d e : X) → s ≡ t → d ≡ e → t.broken ≡ false
    → ((x : ℕ) (c : Call) (disk : X) → Passes Unchanged (state d) (state disk) → CrashSurvives (asks x c) s (state d) (state disk)) → LeavesCall under client call t
    → CrashLeaves under (state e) (state e)
none_leaves state under client call s t d e r disk whole survives left =
    let now = survives client call d (nothing_passes (state d)) in
    let by_state = subst (λ (x : State). CrashSurvives (asks client call) x (state d) (state d)) r now in
    asked_leaves under (asks client call) t (state e) (state e) left whole (subst (λ x. CrashSurvives (asks client call) t (state x) (state x)) disk by_state)

-- a call with which a plan begins
pub first_call : {A : Type 0} (under : UnderWay) (told : Bool) (client : ℕ) (s : State) (call : Call) (rest : Reply → Plan A) (old new : DiskState) → s.broken ≡ false
    → (LeavesCall under client call s → CrashLeaves under old new) → Meanwhile under told client s (calls call rest) old new
first_call under told client s call rest old new whole leaves along present = leaves (along.0 whole)

pub by_call : (under : UnderWay) (client : ℕ) (s : State) (call asked : Call) (old new : DiskState) → call ≡ asked
    → (LeavesCall under client call s → CrashLeaves under old new) → LeavesCall under client asked s → CrashLeaves under old new
by_call under client s call asked old new same leaves either = leaves (subst (λ (c : Call). LeavesCall under client c s) (sym same) either)

pub by_client_call : (under : UnderWay) (client other : ℕ) (s : State) (call : Call) (old new : DiskState) → client ≡ other
    → (LeavesCall under client call s → CrashLeaves under old new) → LeavesCall under other call s → CrashLeaves under old new
by_client_call under client other s call old new same leaves either = leaves (subst (λ (c : ℕ). LeavesCall under c call s) (sym same) either)

-- ---- calls one after the other

-- what makes no call on the disk
pub still_meanwhile : {A : Type 0} (under : UnderWay) (told : Bool) (client : ℕ) (s : State) (plan : Plan A) (disk : DiskState)
    → Meanwhile under told client s plan disk disk
still_meanwhile under told client s plan disk along present = present

pub meanwhile_then : {A : Type 0} (under : UnderWay) (told : Bool) (client : ℕ) (s mid : State) (plan rest : Plan A) (a b c : DiskState) → b.nature ≡ a.nature
    → LeadsTo A told client s plan mid rest → Meanwhile under told client s plan a b → Meanwhile under told client mid rest b c
    → Meanwhile under told client s plan a c
meanwhile_then under told client s mid plan rest a b c nature leads first next along present honest =
    let ab = first along present honest in
    leaves_then (HoldsLeft under) a b c ab
    (next (leads.goes under along) (λ _. leaves_now (HoldsLeft under) a b ab) (honest_on a b nature honest))

-- the same plan by another name
pub meanwhile_as : {A : Type 0} (under : UnderWay) (told : Bool) (client : ℕ) (s : State) (plan other : Plan A) (a b : DiskState) → other ≡ plan
    → Meanwhile under told client s plan a b → Meanwhile under told client s other a b
meanwhile_as under told client s plan other a b same is = subst (λ p. Meanwhile under told client s p a b) (sym same) is

-- the same by other names
pub meanwhile_by : {A : Type 0} (under : UnderWay) (told same : Bool) (client other : ℕ) (s : State) (plan : Plan A) (a b : DiskState) → told ≡ same → client ≡ other
    → Meanwhile under told client s plan a b → Meanwhile under same other s plan a b
meanwhile_by {A = A} under told same client other s plan a b p q is =
    subst (λ (x : Bool). Meanwhile under x other s plan a b) p (subst (λ (c : ℕ). Meanwhile under told c s plan a b) q is)

-- ---- calls that read

pub passes_still : (disk : DiskState) → Passes Unchanged disk disk
passes_still disk = nothing_passes disk

pub passes_then : (a b c : DiskState) → Passes Unchanged a b → Passes Unchanged b c → Passes Unchanged a c
passes_then a b c first next = record {
  later = omega (arith, first.later, next.later);
  past = λ moment image le at. first.past moment image le (next.past moment image (omega (arith, le, first.later)) at);
  kept = λ moment image le at. next.kept moment image (omega (arith, le, first.later)) (first.kept moment image le at);
  images = λ moment image from until at. left moment image from until at (cases_lt b.clock moment);
  faults = omega (arith, first.faults, next.faults);
  nature = next.nature ∙ first.nature;
}
  where
    before : (image : Files) → b.image_at b.clock image → (old : Files) × MayLeave a old × Unchanged old image
    before image at = elim (cases_lt a.clock b.clock) [
      | inl later ↦ first.images b.clock image later (omega arith) at
      | inr same ↦ (
        image,
        first.past a.clock image (omega arith) (let one : b.clock ≡ a.clock = omega (arith, same, first.later) in subst (λ (k : ℕ). b.image_at k image) one at),
        λ file. refl,
      )
    ]

    left : (moment : ℕ) (image : Files) → a.clock < moment → moment ≤ c.clock → c.image_at moment image → (b.clock < moment) ⊎ (moment ≤ b.clock)
        → (old : Files) × MayLeave a old × Unchanged old image
    left moment image from until at (inl later) =
        let found = next.images moment image later until at in
        let first_found = before found.0 found.1 in (first_found.0, first_found.1, λ file. found.2 file ∙ first_found.2 file)
    left moment image from until at (inr sooner) = first.images moment image from sooner (next.past moment image sooner at)

pub reads_leave : (under : UnderWay) (a b : DiskState) → Passes Unchanged a b → CrashLeaves under a a → CrashLeaves under a b
reads_leave under a b passes present honest =
    let now = present honest in record {
      later = passes.later;
      past = passes.past;
      each = λ moment image from until at. elim (cases_lt a.clock moment) [
        | inl later ↦
            let found = passes.images moment image later until at in
            let files : found.0 ≡ image = λ i. λ file. sym (found.2 file) i in
            subst (HoldsLeft under) files (now.each a.clock found.0 (omega arith) (omega arith) found.1)
        | inr same ↦ now.each moment image from same (passes.past moment image same at)
      ];
    }
