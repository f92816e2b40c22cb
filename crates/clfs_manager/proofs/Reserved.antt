-- Growth for a call, and an area that holds more sectors.
use Rattle.clfs_manager.proofs.Words.{◌≡◌, ℕ, ◌+◌, ◌<◌, ◌≤◌, Bool, true, false, refl, sym, ap, subst, ◌∙◌, ◌≢◌, List, [], ◌∷◌, length, arith, ◌&&◌, nat_lt}
use Rattle.clfs_manager.proofs.Words.{Option, None, Some, Result, Err, IsOk, option_map_or, nat_tests, DiskState, all_held, area_at, no_area, Area, State}
use Rattle.clfs_manager.proofs.Words.{hold_sizes, with_more_held, Refusal, Fine, Outcome, answer, outcome, full, refused_if, refusal, size_refusal, too_long}
use Rattle.clfs_manager.proofs.Words.{grown, own_sum, with_containers, area_of, change_area, Step, IsStorable, IsValid, GoesTheseWays, ChangesAreas, Holds}
use Rattle.clfs_manager.proofs.Words.{IsSound, IsIntact, Log}
use Rattle.std.proofs.lemmas.List.Sums.{get_or-le-sum_by}
use Rattle.clfs_model.specs.declared.refusal.Refusal.TheVariants as refusals
use Rattle.clfs_model.specs.declared.call.Call.TheVariants as calls
use Rattle.clfs_model.specs.declared.reply.Reply.TheVariants as replies
use Rattle.clfs_model.specs.Answers.{reserved_for}
use Rattle.clfs_model.specs.Space.{free, grown_if, reserved, size_limit}
use Rattle.clfs_manager.proofs.AreasChange.{holds_still, open_after}

-- growth changes the number of containers alone
grown_sized : (s : State) (need : ℕ) → grown s need ≡ with_containers (grown s need).containers s
unfolding grown
grown_sized s need = by_test (s.automatic && nat_lt (free s) (reserved s + need))
  where
    by_test : (test : Bool) → grown_if test s (reserved s + need) ≡ with_containers (grown_if test s (reserved s + need)).containers s
    by_test true = refl
    by_test false = refl

-- so the state with as many containers is that of growth
pub grown_is_sized : (s : State) (need containers : ℕ) → containers ≡ (grown s need).containers → with_containers containers s ≡ grown s need
grown_is_sized s need containers is = ap (λ (n : ℕ). with_containers n s) is ∙ sym (grown_sized s need)

-- a log that may not grow stays as it is
pub not_growing : (s : State) (need : ℕ) → s.automatic ≡ false → grown s need ≡ s
unfolding grown
not_growing s need off = rw off refl

-- why a reservation is refused, by the space and the area that were looked at
pub reserve_judged : (s looked : State) (client number : ℕ) (area : Area) (greatest : ℕ) (given sizes : List ℕ) (told : Option Refusal)
    → refusal s client (calls.Reserve number sizes) ≡ too_long area.largest sizes (full s (own_sum sizes))
    → told ≡ too_long greatest given (full looked (own_sum given)) → looked ≡ s → greatest ≡ area.largest → given ≡ sizes
    → refusal s client (calls.Reserve number sizes) ≡ told
reserve_judged s looked client number area greatest given sizes told found is of_space of_area of_sizes =
    found ∙ sym (rw (← of_space, ← of_area, ← of_sizes) is)

-- a larger size within the limit isn't refused
pub size_allowed : (s : State) (asked : ℕ) → s.containers < asked → asked ≤ size_limit s → size_refusal s asked ≡ None
size_allowed s asked more limit =
    let within : nat_lt (size_limit s) asked ≡ false = grind (arith, nat_tests, limit) in
    let larger : nat_lt asked s.containers ≡ false = grind (arith, nat_tests, more) in
    rw (within, larger) (neither (nat_lt s.containers asked))
  where
    neither : (test : Bool) → refused_if (test && false) (refusals.ContainerLimit (size_limit s)) None ≡ None
    neither true = refl
    neither false = refl

-- lengths of records to come, of which there are some
pub holds_more : (area : Area) (sizes : List ℕ) (s : State) → sizes ≢ [] → hold_sizes area sizes s ≡ change_area (with_more_held (own_sum sizes)) area.client area.number s
holds_more area [] s some = absurd (some refl)
holds_more area (n ∷ sizes) s some = refl

-- A log of which the areas alone changed is sound where its state is one that a log can be in and that files can hold.
pub sound_after : (old new : Log) → IsSound old → ChangesAreas old new → IsValid new.state.value → IsStorable new.state.value → IsSound new
sound_after old new sound changes valid storable = record {
  valid = valid;
  storable = storable;
  unbroken = changes.broken ∙ sound.unbroken;
  whole = ap (λ (t : State). t.broken) changes.state ∙ sound.whole;
  holds = subst (λ (t : State). Holds t new) (sym changes.state) (holds_still old new new.state.value.areas changes changes.areas sound.holds);
}

-- and intact where it was
pub intact_after : (disk : DiskState) (old new : Log) → IsIntact disk old → ChangesAreas old new → IsSound new → IsIntact disk new
intact_after disk old new intact changes sound = record {
  sound = sound;
  opened = open_after disk old new changes intact.opened;
}

-- what an area holds is among what all hold
pub held_within : (areas : List Area) (place : ℕ) → place < length areas → (area_at place areas).held ≤ all_held areas
held_within areas place within = get_or-le-sum_by (λ (area : Area). area.held) areas place no_area within

-- a reservation that isn't refused, as a step
reserve_answer : (s : State) (client number : ℕ) (area : Area) (sizes : List ℕ) → area_of s client number ≡ Some area
    → answer s client (calls.Reserve number sizes) ≡ reserved_for s area sizes
reserve_answer s client number area sizes there =
    ap (λ (found : Option Area). option_map_or (λ (a : Area). reserved_for s a sizes) found (outcome (replies.Refused refusals.NoSuchArea) s)) there

pub reserve_step : GoesTheseWays → (told : Bool) (s : State) (client number : ℕ) (area : Area) (sizes : List ℕ) → s.broken ≡ false
    → refusal s client (calls.Reserve number sizes) ≡ None → area_of s client number ≡ Some area
    → Step told s client (calls.Reserve number sizes) Fine (replies.Held (area.held + own_sum sizes)) (hold_sizes area sizes (grown s (own_sum sizes)))
reserve_step ways told s client number area sizes whole none there =
    let is = reserve_answer s client number area sizes there in
    ways.answered told s client (calls.Reserve number sizes) (replies.Held (area.held + own_sum sizes)) (hold_sizes area sizes (grown s (own_sum sizes))) whole none
    (sym (ap (λ (o : Outcome). o.reply) is)) (sym (ap (λ (o : Outcome). o.state) is))

-- a call that met a fault of the disk in growth is one that grows
pub fault_grows : {A E : Type 0} (grows : Bool) (result : Result A E) (error : E) (P : Type 0) → (grows ≡ false → IsOk result × P) → result ≡ Err error → grows ≡ true
fault_grows true result error P quiet is = refl
fault_grows false result error P quiet is = absurd (let ok = (quiet refl).0 in cc)
