-- What is computed of a plan is a way to carry it out.
use Rattle.clfs_cells.proofs.Words.{◌≡◌, ℕ, zero, suc, Bool, true, false, [], ◌∷◌, Some, refl, sym, subst, ◌&&◌, Fine, asks, fine_outcome}
use Rattle.std.specs.Prelude.{not}
use Rattle.clfs_model.specs.declared.call.Call.{Call}
use Rattle.clfs_model.specs.declared.refusal.Refusal.TheVariants as refusals
use Rattle.clfs_model.specs.declared.reply.Reply.TheVariants as replies
use Rattle.clfs_model.specs.declared.state.State.{State}
use Rattle.clfs_model.specs.Run.{Run}
use Rattle.clfs_model.specs.Step.{Step, takes_memory}
use Rattle.clfs_cells.proofs.Actions.{guarded}
use Rattle.clfs_cells.specs.Plans.{Plan, ends, calls, never, Ended, CarriesOut, fine_end, end_without_memory}

-- one call where nothing happens and memory suffices
abbrev pub FineSteps : Type 0
FineSteps = (s : State) (client : ℕ) (call : Call) → Step true s client call Fine (fine_outcome s (asks client call)).reply (fine_outcome s (asks client call)).state

pub one_step : (s : State) (client : ℕ) (call : Call)
    → Run true s (asks client call ∷ []) (Fine ∷ []) ((fine_outcome s (asks client call)).reply ∷ []) (fine_outcome s (asks client call)).state
    → Step true s client call Fine (fine_outcome s (asks client call)).reply (fine_outcome s (asks client call)).state
one_step s client call run =
    subst (λ (t : State). Step true s client call Fine (fine_outcome s (asks client call)).reply t) (sym run.1.1) run.1.0

ended_is : {A : Type 0} (x y : Ended A) → Some x ≡ Some y → x ≡ y
ended_is x y e = cc e

pub carried : {A : Type 0} → FineSteps → (client : ℕ) (log : State) (plan : Plan A) (ended : Ended A) → fine_end client log plan ≡ Some ended
    → CarriesOut true client log plan ended.value ended.log
carried steps client log (ends value) ended e =
    let same = ended_is (record { value = value; log = log }) ended e in
    subst (λ (end : Ended _). CarriesOut true client log (ends value) end.value end.log) same (refl, refl)
carried steps client log (calls call rest) ended e = (
  Fine,
  (fine_outcome log (asks client call)).reply,
  (fine_outcome log (asks client call)).state,
  (steps log client call, carried steps client (fine_outcome log (asks client call)).state (rest (fine_outcome log (asks client call)).reply) ended e),
)
carried steps client log never ended e = absurd (cc e)

-- a call that memory may lack for, of a log that isn't broken
abbrev pub MemoryLacks : Type 0
MemoryLacks = (told : Bool) (s : State) (client : ℕ) (call : Call) → s.broken ≡ false → takes_memory call ≡ true
    → Step told s client call Fine (replies.Refused refusals.NoMemory) s

whole_and_taking : (broken takes : Bool) → (not broken && takes) ≡ true → (broken ≡ false) × (takes ≡ true)
whole_and_taking true takes e = absurd (cc e)
whole_and_taking false takes e = (refl, e)

pub carried_without : {A : Type 0} → FineSteps → MemoryLacks → (before client : ℕ) (log : State) (plan : Plan A) (ended : Ended A)
    → end_without_memory before client log plan ≡ Some ended → CarriesOut true client log plan ended.value ended.log
carried_without steps lacks zero client log (ends value) ended e = absurd (cc e)
carried_without steps lacks (suc before) client log (ends value) ended e = absurd (cc e)
carried_without steps lacks zero client log never ended e = absurd (cc e)
carried_without steps lacks (suc before) client log never ended e = absurd (cc e)
carried_without steps lacks zero client log (calls call rest) ended e =
    let guard = guarded (not log.broken && takes_memory call) (fine_end client log (rest (replies.Refused refusals.NoMemory))) ended e in
    let both = whole_and_taking log.broken (takes_memory call) guard.0 in (
      Fine,
      replies.Refused refusals.NoMemory,
      log,
      (lacks true log client call both.0 both.1, carried steps client log (rest (replies.Refused refusals.NoMemory)) ended guard.1),
    )
carried_without steps lacks (suc before) client log (calls call rest) ended e = (
  Fine,
  (fine_outcome log (asks client call)).reply,
  (fine_outcome log (asks client call)).state,
  (steps log client call, carried_without steps lacks before client (fine_outcome log (asks client call)).state (rest (fine_outcome log (asks client call)).reply) ended e),
)
