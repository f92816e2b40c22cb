-- What a crash leaves while one request more is answered.
use Rattle.std.proofs.Common.{◌≡◌, ℕ, ◌≤◌, Bool, true, false, refl, sym, ap, subst, ◌∙◌, List, [], ◌∷◌, ◌++◌, inl, inr, arith}
use Rattle.std.specs.Prelude.{if◌then◌else◌}
use Rattle.std.proofs.lemmas.Bool.{cases_Bool}
use Rattle.clfs_disk.specs.Files.{Files}
use Rattle.clfs_disk.specs.State.{DiskState}
use Rattle.clfs_model.specs.declared.call.Call.{Call}
use Rattle.clfs_model.specs.declared.reply.Happened.{Happened}
use Rattle.clfs_model.specs.declared.reply.Happened.TheVariants.{Fine, Fault}
use Rattle.clfs_model.specs.declared.refusal.Refusal.TheVariants as refusals
use Rattle.clfs_model.specs.declared.reply.Reply.{Reply}
use Rattle.clfs_model.specs.declared.reply.Reply.TheVariants as replies
use Rattle.clfs_model.specs.declared.state.State.{State}
use Rattle.clfs_model.specs.Happened.{happened_of}
use Rattle.clfs_model.specs.Run.{Request, RequestStep, asks, bad_line}
use Rattle.clfs_model.specs.Step.{Step, ReopenStep, IsBroken}
use Rattle.clfs_manager.specs.Crashes.{CrashSurvives}
use Rattle.clfs_operations.specs.Answered.{IsFaultless}
use Rattle.clfs_operations.specs.Crashed.{Asking, Images, IsLeftBetween, IsLeftByRun, StandsStill, asked_by, under_way}

-- time goes on
run_rises : (told whole : Bool) (images : Images) (from to : ℕ) (before : Asking) (s : State) (requests : List Request) (answers : List Reply) (t : State)
    → IsLeftByRun told whole images from to before s requests answers t → from ≤ to
run_rises told whole images from to before s [] [] t run = omega (arith, run.1)
run_rises told whole images from to before s [] (y ∷ answers) t run = absurd run
run_rises told whole images from to before s (x ∷ requests) [] t run = absurd run
run_rises told whole images from to before s (x ∷ requests) (y ∷ answers) t run =
    let rest = run_rises told whole images run.0 to (under_way before x y s) run.1.1.1.0 requests answers t run.1.1.1.1.1 in omega (arith, run.1.0, rest)

-- what is left of a request, by whether the log is broken
left_here : (whole : Bool) (images : Images) (from to : ℕ) (before : Asking) (request : Request) (reply : Reply) (s : State)
    → (s.broken ≡ false → IsLeftBetween whole images from to (record { request = asked_by request reply; state = s }))
    → (s.broken ≡ true → IsLeftBetween whole images from to before) → IsLeftBetween whole images from to (under_way before request reply s)
left_here whole images from to before request reply s unbroken broken = by_test s.broken refl
  where
    by_test : (b : Bool) → s.broken ≡ b → IsLeftBetween whole images from to (if b then before else record { request = asked_by request reply; state = s })
    by_test true is = broken is
    by_test false is = unbroken is

-- one request more
pub left_more : (told whole : Bool) (images more : Images) (from mid to : ℕ) (before : Asking) (s m : State) (requests : List Request) (answers : List Reply)
    (request : Request) (reply : Reply) (t : State) → IsLeftByRun told whole images from mid before s requests answers m
    → IsLeftBetween whole images from from before → RequestStep told m request (happened_of reply) reply t → mid ≤ to
    → ((moment : ℕ) (image : Files) → moment ≤ mid → more moment image → images moment image)
    → (m.broken ≡ false → IsLeftBetween whole more mid to (record { request = asked_by request reply; state = m })) → (m.broken ≡ true → to ≡ mid)
    → IsLeftByRun told whole more from to before s (requests ++ request ∷ []) (answers ++ reply ∷ []) t
left_more told whole images more from mid to before s m [] [] request reply t run start step later back left still =
    let same : m ≡ s = run.0 in
    let at : from ≡ mid = run.1 in (
      to,
      (
        omega (arith, at, later),
        (
          left_here whole more from to before request reply s
              (λ unbroken moment image after until is. let F : State → Type 0 = λ u. u.broken ≡ false → IsLeftBetween whole more mid to (record { request = asked_by request reply; state = u }) in
              subst F same left unbroken moment image (omega (arith, at, after)) until is)
              (λ broken moment image after until is.
              let here = still (ap (λ (u : State). u.broken) same ∙ broken) in
              start moment image after (omega (arith, until, here, at)) (back moment image (omega (arith, until, here)) is)),
          (t, (subst (λ (u : State). RequestStep told u request (happened_of reply) reply t) same step, (refl, refl))),
        ),
      ),
    )
left_more told whole images more from mid to before s m [] (y ∷ answers) request reply t run start step later back left still = absurd run
left_more told whole images more from mid to before s m (x ∷ requests) [] request reply t run start step later back left still = absurd run
left_more told whole images more from mid to before s m (x ∷ requests) (y ∷ answers) request reply t run start step later back left still =
    let behind = run.0 in
    let here = run.1.1.0 in
    let rest = run.1.1.1.1.1 in
    let rises = run_rises told whole images behind mid (under_way before x y s) run.1.1.1.0 requests answers m rest in (
      behind,
      (
        run.1.0,
        (
          λ moment image after until is. here moment image after until (back moment image (omega (arith, until, rises)) is),
          (
            run.1.1.1.0,
            (
              run.1.1.1.1.0,
              left_more told whole images more behind mid to (under_way before x y s) run.1.1.1.0 m requests answers request reply t rest
                  (λ moment image after until is. here moment image (omega (arith, run.1.0, after)) until is) step later back left still,
            ),
          ),
        ),
      ),
    )

-- ---- a log that isn't broken

-- that a call which met a fault leaves the log broken
abbrev pub FaultBreaks : Type 0
FaultBreaks = (told : Bool) (s : State) (client : ℕ) (call : Call) (happened : Happened) (reply : Reply) (t : State)
    → Step told s client call happened reply t → happened_of reply ≡ Fault → t.broken ≡ true

-- and that it stays so
abbrev pub StaysBroken : Type 0
StaysBroken = (told : Bool) (s : State) (client : ℕ) (call : Call) (happened : Happened) (reply : Reply) (t : State)
    → s.broken ≡ true → Step told s client call happened reply t → IsBroken s reply t

abbrev pub OpeningBreaks : Type 0
OpeningBreaks = (told : Bool) (s : State) (happened : Happened) (reply : Reply) (t : State)
    → ReopenStep told s happened reply t → (happened_of reply ≡ Fine → ⊥) → t.broken ≡ true

abbrev pub OpeningStaysBroken : Type 0
OpeningStaysBroken = (told : Bool) (s : State) (happened : Happened) (reply : Reply) (t : State)
    → s.broken ≡ true → ReopenStep told s happened reply t → IsBroken s reply t

clashes : (b : Bool) → b ≡ true → b ≡ false → ⊥
clashes b is isnt = let clash = sym is ∙ isnt in cc clash

never_broken : (s t : State) → (s.broken ≡ true → t.broken ≡ true) → t.broken ≡ false → s.broken ≡ false
never_broken s t stays whole = elim (cases_Bool s.broken) [
  | inl broken ↦ absurd (clashes t.broken (stays broken) whole)
  | inr unbroken ↦ unbroken
]

pub faultless_step : FaultBreaks → StaysBroken → (told : Bool) (s : State) (client : ℕ) (call : Call) (reply : Reply) (t : State)
    → Step told s client call (happened_of reply) reply t → IsFaultless s reply t
faultless_step breaks stays told s client call reply t step = λ whole. (
  never_broken s t (λ broken. let is = stays told s client call (happened_of reply) reply t broken step in ap (λ (u : State). u.broken) is.1 ∙ broken) whole,
  λ fault. clashes t.broken (breaks told s client call (happened_of reply) reply t step (ap happened_of fault)) whole,
)

pub faultless_opening : OpeningBreaks → OpeningStaysBroken → (told : Bool) (s : State) (reply : Reply) (t : State)
    → ReopenStep told s (happened_of reply) reply t → IsFaultless s reply t
faultless_opening breaks stays told s reply t step = λ whole. (
  never_broken s t (λ broken. let is = stays told s (happened_of reply) reply t broken step in ap (λ (u : State). u.broken) is.1 ∙ broken) whole,
  λ fault. clashes t.broken (breaks told s (happened_of reply) reply t step (λ fine. let wrong = sym (ap happened_of fault) ∙ fine in cc wrong)) whole,
)

-- ---- a call

-- what survives a call, by its reply
pub survives_by : (client : ℕ) (call : Call) (reply : Reply) (s : State) (old new : DiskState) → CrashSurvives (asks client call) s old new
    → (reply ≡ replies.Refused refusals.NoMemory → CrashSurvives (bad_line 0) s old new) → CrashSurvives (asked_by (asks client call) reply) s old new
survives_by client call (replies.Refused refusals.NoMemory) s old new survives starved = starved refl
survives_by client call (replies.Refused other) s old new survives starved = survives
survives_by client call _ s old new survives starved = survives

-- ---- a disk that isn't called

pub stands_as : {D : Type 0} (state : D → DiskState) (a b : D) → b ≡ a → StandsStill (state a) (state b)
stands_as {D} state a b same = subst (λ (d : D). StandsStill (state a) (state d)) (sym same) (record { clock = refl; images = λ moment image is. is })
