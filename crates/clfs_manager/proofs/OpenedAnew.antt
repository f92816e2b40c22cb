-- A log that was opened again, or that wasn't.
use Rattle.clfs_manager.proofs.Words.{◌≡◌, ℕ, Bool, true, false, [], refl, sym, subst, ◌∙◌, inl, inr, arith, IsErrOf, Files, Unchanged, DiskState}
use Rattle.clfs_manager.proofs.Words.{TellsContents, IsSteady, Passes, Rises, Refusal, State, happened_of_refusal, ReopenStep, StandsFor, IsDamaged}
use Rattle.clfs_manager.proofs.Words.{IsRefused, LoadRefusal, DiskFault, LeavesState, OnlyReads, IsManaged, HoldsFlushed, Log}
use Rattle.std.proofs.Common.{Ok, Err}
use Rattle.clfs_base.specs.declared.refusal.NewestRefusal.TheVariants as newest
use Rattle.clfs_model.specs.declared.refusal.Refusal.TheVariants as refusals
use Rattle.clfs_model.specs.declared.reply.Reply.TheVariants as replies
use Rattle.clfs_recover.specs.Files.{HasNoBase}
use Rattle.clfs_recover.specs.Telling.{TellsOpening}
use Rattle.clfs_recover.specs.declared.refusal.LoadRefusal.TheVariants.{NoBase, Damaged, NoMemory}
use Rattle.clfs_manager.specs.Reopening.{TellsPlace, refused_as}
use Rattle.clfs_manager.proofs.FilesHold.{reopens}
use Rattle.clfs_manager.proofs.FlushKeeps.{ReopensValid, ReopensStorable, managed_broken}
use Rattle.clfs_manager.proofs.ReadKeeps.{open_buffers}

-- files that stand for a state are not damaged
abbrev pub NeverDamaged : Type 0
NeverDamaged = (files : Files) (s : State) (container offset at : ℕ) → StandsFor files s → IsDamaged files container offset at → ⊥

-- and have a base
abbrev pub NeverWithoutBase : Type 0
NeverWithoutBase = (files : Files) (s : State) → HasNoBase files → StandsFor files s → ⊥

-- a manager whose disk was read
pub managed_read : (old new : DiskState) (log : Log) → Unchanged old.files new.files → Passes Unchanged old new → IsManaged old log → IsManaged new log
managed_read old new log same time managed = record {
  valid = managed.valid;
  storable = managed.storable;
  broken = managed.broken;
  whole = λ unbroken. let opened = managed.whole unbroken in open_buffers old new log.state.value log log.buffers same time opened.kept opened;
}

-- a manager that was refused
pub managed_refused : (refusal : LoadRefusal) (told : Refusal) (old new : DiskState) (before after : Log) → ReopensValid → ReopensStorable → IsManaged old before
    → before.broken ≡ false → Unchanged old.files new.files → Passes Unchanged old new → told ≡ refused_as refusal
    → LeavesState told before.state.value after.state.value → (told ≡ refusals.NoMemory → after ≡ before) → ((told ≡ refusals.NoMemory → ⊥) → after.broken ≡ true)
    → IsManaged new after
managed_refused NoMemory told old new before after valid storable managed unbroken same time is leaves memory broken =
    subst (IsManaged new) (sym (memory is)) (managed_read old new before same time managed)
managed_refused DiskFault told old new before after valid storable managed unbroken same time is leaves memory broken =
    managed_broken old new before after valid storable managed unbroken (record { broken = broken (λ e. let clash = sym is ∙ e in cc clash); state = rw is at leaves })
managed_refused NoBase told old new before after valid storable managed unbroken same time is leaves memory broken =
    managed_broken old new before after valid storable managed unbroken (record { broken = broken (λ e. let clash = sym is ∙ e in cc clash); state = rw is at leaves })
managed_refused (Damaged container offset at) told old new before after valid storable managed unbroken same time is leaves memory broken =
    managed_broken old new before after valid storable managed unbroken (record { broken = broken (λ e. let clash = sym is ∙ e in cc clash); state = rw is at leaves })

-- the step then
pub refused_reopens : (refusal : LoadRefusal) (told : Bool) (s t : State) → s.broken ≡ false → LeavesState (refused_as refusal) s t
    → ReopenStep told s (happened_of_refusal (refused_as refusal)) (replies.Refused (refused_as refusal)) t
refused_reopens NoMemory told s t whole leaves = reopens told s _ _ t whole (inl (refl, leaves))
refused_reopens DiskFault told s t whole leaves = reopens told s _ _ t whole (inr (refl, leaves))
refused_reopens NoBase told s t whole leaves = reopens told s _ _ t whole (inr (tt, leaves))
refused_reopens (Damaged container offset at) told s t whole leaves = reopens told s _ _ t whole (inr (tt, leaves))

-- what it reads
pub refused_reads : {A B : Type 0} → NeverDamaged → NeverWithoutBase → (refusal : LoadRefusal) (old new : DiskState) (s : State) → (TellsContents old → HoldsFlushed old.files s)
    → (TellsContents old → IsRefused old.files refusal) → Unchanged old.files new.files → Passes Unchanged old new
    → (IsErrOf {T = B} (Err refusal) DiskFault → Rises old.faults new.faults)
    → (IsSteady old → (IsErrOf {T = B} (Err refusal) DiskFault → ⊥) × (new.faults ≡ old.faults))
    → OnlyReads {A = A} (Err (refused_as refusal)) old new
refused_reads {A} {B} no_damage no_base refusal old new s holds is same time cause steady = record {
  same = same;
  time = time;
  damage = λ tells container offset at e. never refusal container offset at (holds tells) (is tells) (cc e);
  cause = λ e. cause (fault refusal (cc e));
  steady = λ calm. (λ e. (steady calm).0 (fault refusal (cc e)), (steady calm).1);
}
  where
    never : (r : LoadRefusal) (container offset at : ℕ) → HoldsFlushed old.files s → IsRefused old.files r → refused_as r ≡ refusals.Damaged container offset at → ⊥
    never NoBase container offset at held refused e = no_base old.files held.opened refused held.stands
    never (Damaged c o a) container offset at held refused e = no_damage old.files held.opened c o a held.stands refused
    never DiskFault container offset at held refused e = cc e
    never NoMemory container offset at held refused e = cc e

    fault : (r : LoadRefusal) → refused_as r ≡ refusals.DiskFault → IsErrOf {T = B} (Err r) DiskFault
    fault DiskFault e = refl
    fault NoMemory e = absurd (cc e)
    fault NoBase e = absurd (cc e)
    fault (Damaged c o a) e = absurd (cc e)

pub answered_reads : {A B : Type 0} (x : A) (y : B) (old new : DiskState) → Unchanged old.files new.files → Passes Unchanged old new
    → (IsSteady old → (IsErrOf {E = LoadRefusal} (Ok y) DiskFault → ⊥) × (new.faults ≡ old.faults)) → OnlyReads (Ok x) old new
answered_reads x y old new same time steady = record {
  same = same;
  time = time;
  damage = λ tells container offset at e. cc e;
  cause = λ e. absurd (cc e);
  steady = λ calm. (λ e. cc e, (steady calm).1);
}

-- a log that isn't broken is broken no more than its state
pub quiet_reads : {A : Type 0} (disk : DiskState) → Passes Unchanged disk disk → OnlyReads {A = A} (Err refusals.Broken) disk disk
quiet_reads disk still = record {
  same = λ file. refl;
  time = still;
  damage = λ tells container offset at e. cc e;
  cause = λ e. absurd (cc e);
  steady = λ calm. (λ e. cc e, refl);
}

-- Damage is told as opening tells it.
pub refused_place : (refusal : LoadRefusal) → TellsOpening refusal → TellsPlace (refused_as refusal)
refused_place NoBase told = record { reason = NoBase; told = told; is = refl }
refused_place (Damaged container offset at) told = record { reason = Damaged container offset at; told = told; is = refl }
refused_place DiskFault told = tt
refused_place NoMemory told = tt

-- Out of memory is told by no bytes.
pub memory_told : TellsOpening NoMemory
memory_told = record {
  newest = Err newest.NoMemory;
  copy = record { first = []; second = []; bytes = []; few_first = omega arith; few_second = omega arith; few = omega arith; read = tt };
  told = refl;
}
