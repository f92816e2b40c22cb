-- Calls that change the areas alone: what memory has besides, and what the disk has, is the state's as before, since no part of it speaks of areas.
use Rattle.clfs_manager.proofs.Words.{◌≡◌, ◌∙◌, ap, refl, subst, sym, ℕ, Bool, false, List, None, AreaTable, DiskState, TellsContents, Call, Happened, Reply}
use Rattle.clfs_manager.proofs.Words.{State, Area, answer, refusal, MeetsCondition, Step, IsStorable, IsValid, Buffered, Newest, Blocks, Queued, Tabled, Told}
use Rattle.clfs_manager.proofs.Words.{Log, ChangesAreas, HasForgotten, Holds, IsStored, AreKept, IsOpen, IsManaged}
use Rattle.clfs_manager.specs.ManagerLaws.{ManagerLaws}

-- the state with other areas
abbrev pub with_areas : State → List Area → State
with_areas s areas = record s { areas = areas }

stored_still : (s : State) (areas : List Area) (newest : Newest) (blocks : Blocks) → IsStored s newest blocks → IsStored (with_areas s areas) newest blocks
stored_still s areas newest blocks stored = record {
  entries = stored.entries;
  log = stored.log;
  records = stored.records;
  state = stored.state;
  needed = stored.needed;
}

kept_still : (s : State) (areas : List Area) (kept : Buffered) → AreKept s kept → AreKept (with_areas s areas) kept
kept_still s areas kept are = record { stable = are.stable; records = are.records }

-- what memory has of the state but for its areas
pub holds_still : (old new : Log) (areas : List Area) → ChangesAreas old new → new.areas.areas ≡ areas
    → Holds old.state.value old → Holds (with_areas old.state.value areas) new
holds_still old new areas changes are holds = record {
  shape = ap (λ (q : Queued). q.shape) changes.queue ∙ holds.shape;
  buffers = ap (λ (q : Queued). q.buffers) changes.queue ∙ holds.buffers;
  place = ap (λ (q : Queued). q.place) changes.queue ∙ holds.place;
  waiting = ap (λ (q : Queued). q.waiting) changes.queue ∙ holds.waiting;
  records = ap (λ (q : Queued). q.records) changes.queue ∙ holds.records;
  streams = ap (λ (t : Tabled). t.streams) changes.tables ∙ holds.streams;
  heads = ap (λ (t : Tabled). t.heads) changes.tables ∙ holds.heads;
  low = rw changes.tables holds.low;
  areas = are;
  archive = rw changes.archive holds.archive;
  sealed = rw (changes.tables, changes.archive) holds.sealed;
  room = rw changes.archive holds.room;
  policies = changes.policies ∙ holds.policies;
  containers = rw changes.physical holds.containers;
  image_shape = rw changes.physical holds.image_shape;
  dedicated = rw changes.physical holds.dedicated;
  rows = rw changes.physical holds.rows;
  listed = rw changes.physical holds.listed;
  needed = rw changes.physical holds.needed;
}

-- as much is forgotten
forgotten_still : (old new : Log) (areas : List Area) → ChangesAreas old new → HasForgotten old.state.value old → HasForgotten (record old.state.value { areas = areas }) new
forgotten_still old new areas changes is = record { low = rw changes.tables is.low; ends = rw (changes.tables, changes.archive) is.ends }

-- the log is open as before
pub open_after : (disk : DiskState) (old new : Log) → ChangesAreas old new → IsOpen disk old.state.value old → IsOpen disk new.state.value new
open_after disk old new changes opened =
    let s = old.state.value in
    subst (λ (t : State). IsOpen disk t new) (sym changes.state) (record {
      memory = holds_still old new new.state.value.areas changes changes.areas opened.memory;
      blocks = opened.blocks;
      stored = stored_still s new.state.value.areas new.physical opened.blocks (rw changes.physical opened.stored);
      files = rw changes.physical opened.files;
      kept = λ (tells : TellsContents disk). kept_still s new.state.value.areas new.buffers (rw changes.buffers (opened.kept tells));
      settled = opened.settled;
      forgotten = forgotten_still old new new.state.value.areas changes opened.forgotten;
    })

-- that each step leaves a valid state
abbrev pub KeepsValid : Type 0
KeepsValid = (told : Bool) (s : State) (client : ℕ) (call : Call) (happened : Happened) (reply : Reply) (t : State)
    → IsValid s → Step told s client call happened reply t → IsValid t

-- that each step of a call which meets its condition leaves a state that files can hold
abbrev pub KeepsStorable : Type 0
KeepsStorable = (told : Bool) (s : State) (client : ℕ) (call : Call) (happened : Happened) (reply : Reply) (t : State)
    → IsValid s → IsStorable s → MeetsCondition client call → Step told s client call happened reply t → IsStorable t

-- A manager's call whose answer changes the areas alone leaves a manager, once memory and the state have changed so.
pub managed_answered : (disk : DiskState) (log : Log) (areas : AreaTable) (state : Told State) (client : ℕ) (call : Call) (change : List Area → List Area)
    → ManagerLaws → MeetsCondition client call → log.broken ≡ false → IsManaged disk log → refusal log.state.value client call ≡ None
    → (answer log.state.value client call).state ≡ with_areas log.state.value (change log.state.value.areas)
    → state.value ≡ (answer log.state.value client call).state → areas.areas ≡ change log.areas.areas → IsManaged disk (record log { areas = areas; state = state })
managed_answered disk log areas state client call change laws meets unbroken managed none answers is changed =
    let s = log.state.value in
    let whole = managed.whole unbroken in
    let step = laws.ways.answered false s client call _ state.value (managed.broken ∙ unbroken) none refl is in
    let to = is ∙ answers in
    record {
      valid = laws.valid false s client call _ _ state.value managed.valid step;
      storable = laws.storable false s client call _ _ state.value managed.valid managed.storable meets step;
      broken = ap (λ (t : State). t.broken) to ∙ managed.broken;
      whole = λ _. open_after disk log (record log { areas = areas; state = state }) (record {
        state = to ∙ ap (λ (t : State). with_areas s t.areas) (sym to);
        areas = changed ∙ ap change whole.memory.areas ∙ ap (λ (t : State). t.areas) (sym to);
        tables = refl;
        archive = refl;
        policies = refl;
        physical = refl;
        queue = refl;
        buffers = refl;
        broken = refl;
      }) whole;
    }
