-- Requests that were answered, and one more.
use Rattle.std.proofs.Common.{◌≡◌, ℕ, ◌<◌, ◌≤◌, Bool, true, false, refl, sym, ap, subst, ◌∙◌, inl, inr, List, [], ◌∷◌, ◌++◌, arith}
use Rattle.std.specs.Prelude.{◌⊎◌, ◌||◌, map, IsTrue}
use Rattle.std.specs.List.{list_any}
use Rattle.std.proofs.lemmas.Bool.{cases_Bool, cases_lt}
use Rattle.std.proofs.lemmas.List.Folds.{list_any-append}
use Rattle.clfs_disk.specs.Files.{Files}
use Rattle.clfs_disk.specs.State.{DiskState, Nature, TellsContents, IsHonest, IsSteady, MayLeave, Later, Rises}
use Rattle.clfs_model.specs.declared.refusal.Refusal.TheVariants as refusals
use Rattle.clfs_model.specs.declared.reply.Reply.{Reply}
use Rattle.clfs_model.specs.declared.reply.Reply.TheVariants as replies
use Rattle.clfs_model.specs.declared.state.State.{State}
use Rattle.clfs_model.specs.Happened.{happened_of}
use Rattle.clfs_model.specs.Run.{Request, RequestStep, Run}
use Rattle.clfs_model.specs.Step.{IsDamaged}
use Rattle.clfs_operations.specs.Answered.{AnswersOne, AnswersAll, RepliesTellPlaces, TellsItsPlace}
use Rattle.clfs_operations.specs.Crashed.{CrashLeavesRun, nothing_asked}
use Rattle.clfs_operations.specs.Told.{tells_fault, tells_damage, tells_broken, has_fault}
use Rattle.clfs_operations.proofs.Crashing.{left_more}
use Rattle.clfs_operations.proofs.WholeSteps.{StayUnbroken, request_whole}

-- ---- time

-- time that went on, and went on from there
pub later_then : (a b c : DiskState) → Later a b → Later b c → Later a c
later_then a b c first next = record {
  later = omega (arith, first.later, next.later);
  past = λ moment image le at. first.past moment image le (next.past moment image (omega (arith, le, first.later)) at);
  kept = λ moment image le at. next.kept moment image (omega (arith, le, first.later)) (first.kept moment image le at);
  images = λ moment image after until at. left moment image after until at (cases_lt b.clock moment);
  faults = omega (arith, first.faults, next.faults);
  nature = next.nature ∙ first.nature;
}
  where
    before : (image : Files) → b.image_at b.clock image → (old : Files) × MayLeave a old × Unit {0}
    before image at = elim (cases_lt a.clock b.clock) [
      | inl later ↦ first.images b.clock image later (omega arith) at
      | inr same ↦ (image, first.past a.clock image (omega arith) (let one : b.clock ≡ a.clock = omega (arith, same, first.later) in subst (λ (k : ℕ). b.image_at k image) one at), tt)
    ]

    left : (moment : ℕ) (image : Files) → a.clock < moment → moment ≤ c.clock → c.image_at moment image → (b.clock < moment) ⊎ (moment ≤ b.clock)
        → (old : Files) × MayLeave a old × Unit {0}
    left moment image after until at (inl later) = let found = next.images moment image later until at in before found.0 found.1
    left moment image after until at (inr sooner) = first.images moment image after sooner (next.past moment image sooner at)

-- no time went on
pub stands_still : (disk : DiskState) → Later disk disk
stands_still disk = record {
  later = omega arith;
  past = λ moment image le at. at;
  kept = λ moment image le at. at;
  images = λ moment image after until at. absurd (omega (arith, after, until));
  faults = omega arith;
  nature = refl;
}

-- ---- what replies tell

fault_is : (reply : Reply) → tells_fault reply ≡ true → reply ≡ replies.Refused refusals.DiskFault
fault_is (replies.Refused refusals.DiskFault) e = refl
fault_is _ e = absurd (cc e)

no_damage_is : (reply : Reply) → (IsDamaged reply → ⊥) → tells_damage reply ≡ false
no_damage_is (replies.Refused (refusals.Damaged container offset at)) never = absurd (never tt)
no_damage_is _ never = refl

-- a test of one more
with_one : (p : Reply → Bool) (answers : List Reply) (reply : Reply) → list_any p (answers ++ reply ∷ []) ≡ (list_any p answers || (p reply || false))
with_one p answers reply = list_any-append p answers (reply ∷ [])

-- none of the former has it, nor has the one
neither : (p : Reply → Bool) (answers : List Reply) (reply : Reply) → list_any p (answers ++ reply ∷ []) ≡ false → (list_any p answers ≡ false) × (p reply ≡ false)
neither p answers reply none = by_tests (list_any p answers) (p reply) (sym (with_one p answers reply) ∙ none)
  where
    by_tests : (a b : Bool) → (a || (b || false)) ≡ false → (a ≡ false) × (b ≡ false)
    by_tests false false e = (refl, refl)
    by_tests false true e = absurd (cc e)
    by_tests true b e = absurd (cc e)

none_more : (p : Reply → Bool) (answers : List Reply) (reply : Reply) → list_any p answers ≡ false → p reply ≡ false → list_any p (answers ++ reply ∷ []) ≡ false
none_more p answers reply none not = with_one p answers reply ∙ rw (none, not) refl

one_of : (p : Reply → Bool) (answers : List Reply) (reply : Reply) → list_any p (answers ++ reply ∷ []) ≡ true → (list_any p answers ≡ true) ⊎ (p reply ≡ true)
one_of p answers reply some = by_tests (list_any p answers) (p reply) (sym (with_one p answers reply) ∙ some)
  where
    by_tests : (a b : Bool) → (a || (b || false)) ≡ true → (a ≡ true) ⊎ (b ≡ true)
    by_tests true b e = inl refl
    by_tests false true e = inr refl
    by_tests false false e = absurd (cc e)

-- ---- runs

-- a run goes on by one step
run_more : (told : Bool) (s : State) (requests : List Request) (answers : List Reply) (mid : State) (request : Request) (reply : Reply) (t : State)
    → Run told s requests (map happened_of answers) answers mid → RequestStep told mid request (happened_of reply) reply t
    → Run told s (requests ++ request ∷ []) (map happened_of (answers ++ reply ∷ [])) (answers ++ reply ∷ []) t
run_more told s [] [] mid request reply t run step = (t, (subst (λ (m : State). RequestStep told m request (happened_of reply) reply t) run step, refl))
run_more told s [] (y ∷ answers) mid request reply t run step = absurd run
run_more told s (x ∷ requests) [] mid request reply t run step = absurd run
run_more told s (x ∷ requests) (y ∷ answers) mid request reply t run step =
    (run.0, (run.1.0, run_more told run.0 requests answers mid request reply t run.1.1 step))

-- replies that tell their places, and one more
places_more : (told : Bool) (s : State) (requests : List Request) (answers : List Reply) (mid : State) (request : Request) (reply : Reply) (t : State)
    → RepliesTellPlaces told s requests answers mid → RequestStep told mid request (happened_of reply) reply t → TellsItsPlace mid request reply
    → RepliesTellPlaces told s (requests ++ request ∷ []) (answers ++ reply ∷ []) t
places_more told s [] [] mid request reply t all step place =
    (t, (subst (λ (m : State). RequestStep told m request (happened_of reply) reply t) all step, (subst (λ (m : State). TellsItsPlace m request reply) all place, refl)))
places_more told s [] (y ∷ answers) mid request reply t all step place = absurd all
places_more told s (x ∷ requests) [] mid request reply t all step place = absurd all
places_more told s (x ∷ requests) (y ∷ answers) mid request reply t all step place =
    (all.0, (all.1.0, (all.1.1.0, places_more told all.0 requests answers mid request reply t all.1.1.1 step place)))

-- ---- requests that were answered

-- none yet
pub none_answered : (s : State) (disk : DiskState) → AnswersAll s disk [] [] s disk
none_answered s disk = record {
  run = refl;
  time = stands_still disk;
  cause = λ e. absurd (cc e);
  damage = λ told. refl;
  places = refl;
  unbroken = λ told whole none. (whole, refl);
  whole = λ told none are. are;
  steady = λ steady told are. refl;
  faultless = λ whole. refl;
}

-- one more
pub one_answered : StayUnbroken → (s : State) (old : DiskState) (requests : List Request) (answers : List Reply) (mid : State) (between : DiskState) (request : Request)
    (reply : Reply) (t : State) (new : DiskState) → AnswersAll s old requests answers mid between → AnswersOne mid between request reply t new
    → AnswersAll s old (requests ++ request ∷ []) (answers ++ reply ∷ []) t new
one_answered stay s old requests answers mid between request reply t new all one = record {
  run = run_more old.nature.tells_contents s requests answers mid request reply t all.run
      (subst (λ (n : Nature). RequestStep n.tells_contents mid request (happened_of reply) reply t) all.time.nature one.step);
  time = later_then old between new all.time one.writes.time;
  cause = λ some. raised (one_of tells_fault answers reply some);
  damage = λ told. none_more tells_damage answers reply (all.damage told) (no_damage_is reply (one.damage (tells_on told)));
  places = places_more old.nature.tells_contents s requests answers mid request reply t all.places
      (subst (λ (n : Nature). RequestStep n.tells_contents mid request (happened_of reply) reply t) all.time.nature one.step) one.place;
  unbroken = λ told whole none.
      let before = neither tells_fault answers reply none in
      let was = all.unbroken told whole before.0 in
      let left = request_whole stay between.nature.tells_contents mid request (happened_of reply) reply t was.0 before.1
      (no_damage_is reply (one.damage (tells_on told))) one.step in
      (left.whole, none_more tells_broken answers reply was.1 left.says_nothing);
  whole = λ told none are.
      let before = neither tells_fault answers reply none in
      one.writes.whole (no_fault before.1) (tells_on told) (all.whole told before.0 are);
  steady = λ steady told are.
      let was = all.steady steady told are in
      let left = one.writes.steady (steady_on steady) (tells_on told) (all.whole told was are) in
      none_more tells_fault answers reply was (not_fault left.0);
  faultless = λ unbroken.
      let here = one.faultless unbroken in
      none_more tells_fault answers reply (all.faultless here.0) (not_fault here.1);
}
  where
    tells_on : TellsContents old → TellsContents between
    tells_on told = subst (λ (n : Nature). IsTrue n.tells_contents) (sym all.time.nature) told

    steady_on : IsSteady old → IsSteady between
    steady_on steady = subst (λ (n : Nature). IsTrue n.steady) (sym all.time.nature) steady

    no_fault : tells_fault reply ≡ false → reply ≡ replies.Refused refusals.DiskFault → ⊥
    no_fault none e = let clash = sym (ap tells_fault e) ∙ none in cc clash

    not_fault : (reply ≡ replies.Refused refusals.DiskFault → ⊥) → tells_fault reply ≡ false
    not_fault never = elim (cases_Bool (tells_fault reply)) [
      | inl is ↦ absurd (never (fault_is reply is))
      | inr not ↦ not
    ]

    raised : (has_fault answers ≡ true) ⊎ (tells_fault reply ≡ true) → Rises old.faults new.faults
    raised (inl before) = let rose = all.cause before in omega (arith, rose, one.writes.time.faults)
    raised (inr here) = let rose = one.writes.cause (fault_is reply here) in omega (arith, rose, all.time.faults)

-- what a crash leaves of none
pub none_crashed : (s : State) (disk : DiskState) → CrashLeavesRun s disk [] [] s disk
none_crashed s disk = λ unbroken honest whole full start. (refl, refl)

-- and of one more
pub one_crashed : (s : State) (old : DiskState) (requests : List Request) (answers : List Reply) (mid : State) (between : DiskState) (request : Request)
    (reply : Reply) (t : State) (new : DiskState) → AnswersAll s old requests answers mid between → AnswersOne mid between request reply t new
    → CrashLeavesRun s old requests answers mid between → CrashLeavesRun s old (requests ++ request ∷ []) (answers ++ reply ∷ []) t new
one_crashed s old requests answers mid between request reply t new all one crash = λ unbroken honest whole full start.
    left_more old.nature.tells_contents whole between.image_at new.image_at old.clock between.clock new.clock (nothing_asked s) s mid requests answers request reply t
    (crash unbroken honest whole full start)
    (λ moment image after until is. start moment image after until (all.time.past moment image until is))
    (subst (λ (n : Nature). RequestStep n.tells_contents mid request (happened_of reply) reply t) all.time.nature one.step)
    one.writes.time.later
    (λ moment image until is. one.writes.time.past moment image until is)
    (λ whole_mid. (one.crash whole_mid (honest_on honest) whole (λ is. all.whole honest.0 (all.faultless whole_mid) (full is))).each)
    (λ broken. (one.stopped broken).clock)
  where
    honest_on : IsHonest old → IsHonest between
    honest_on honest = subst (λ (n : Nature). IsTrue n.tells_contents × IsTrue n.tells_images) (sym all.time.nature) honest
