-- Parts of archiving one after the other, by how they leave the log and its disk.
use Rattle.clfs_restore.proofs.Words.{◌≡◌, ℕ, ◌≤◌, Option, Some, None, Err, List, refl, sym, ◌∙◌, ap, subst, arith, Unchanged, DiskState, Nature}
use Rattle.clfs_restore.proofs.Words.{TellsContents, IsSteady, Passes, Rises, with_broken, State, LoadRefusal, Reads, GoesOn, refused_as, ArchiveRefusal, Log}
use Rattle.clfs_restore.proofs.Words.{TooLong, NoMemory}
use Rattle.std.proofs.Common.{IsTrue}
use Rattle.clfs_model.specs.declared.refusal.Refusal.TheVariants as refusals
use Rattle.clfs_recover.specs.declared.refusal.LoadRefusal.TheVariants as loading
use Rattle.clfs_archive_form.specs.Drafting.{EndsAt}
use Rattle.clfs_restore.specs.Archiving.{GivesBlocks}

abbrev pub IsFault : Option ArchiveRefusal → Type 0
IsFault refusal = refusal ≡ Some (Log refusals.DiskFault)

abbrev no_refusal : Option ArchiveRefusal
no_refusal = None

pub no_fault : no_refusal ≡ Some (Log refusals.DiskFault) → ⊥
no_fault e = cc e

-- what is told stays told
pub tells_still : (old new : DiskState) → Passes Unchanged old new → TellsContents old → TellsContents new
tells_still old new time told = subst (λ (n : Nature). IsTrue n.tells_contents) (sym time.nature) told

pub steady_still : (old new : DiskState) → Passes Unchanged old new → IsSteady old → IsSteady new
steady_still old new time steady = subst (λ (n : Nature). IsTrue n.steady) (sym time.nature) steady

-- nothing was done
pub still : (s : State) (state : DiskState) → Reads None s s state state
still s state = record {
  kept = λ fine. refl;
  broken = λ fault. absurd (no_fault fault);
  same = λ file. refl;
  time = record {
    later = omega arith;
    past = λ moment image early left. left;
    kept = λ moment image early left. left;
    images = λ moment image after before left. absurd (omega (arith, after, before));
    faults = omega arith;
    nature = refl;
  };
  cause = λ fault. absurd (no_fault fault);
  steady = λ steady. (no_fault, refl);
}

-- a part that went well, and one after it
module _ (refusal : Option ArchiveRefusal) (s t u : State) (old mid new : DiskState) (first : Reads None s t old mid) (next : Reads refusal t u mid new)
    (time : Passes Unchanged old new) where
  pub joined : Reads refusal s u old new
  joined = record {
    kept = λ fine. next.kept fine ∙ first.kept no_fault;
    broken = λ fault. next.broken fault ∙ ap with_broken (first.kept no_fault);
    same = λ file. next.same file ∙ first.same file;
    time = time;
    cause = λ fault. rises (next.cause fault) first.time.faults;
    steady = λ steady.
        let later = next.steady (steady_still old mid first.time steady) in
        (later.0, later.1 ∙ (first.steady steady).1);
  }
    where
      rises : Rises mid.faults new.faults → old.faults ≤ mid.faults → Rises old.faults new.faults
      rises r l = omega (arith, r, l)

-- a refusal that isn't damage
pub ends_refused : (refusal : LoadRefusal) (end : ℕ) (piece : List ℕ) (here : List (List ℕ)) → EndsAt (Err refusal) end
    → GivesBlocks (Err (refused_as refusal)) piece here
ends_refused loading.NoBase end piece here e = e
ends_refused (loading.Damaged container offset at) end piece here e = e
ends_refused loading.DiskFault end piece here e = absurd e
ends_refused loading.NoMemory end piece here e = tt

pub goes_refused : (refusal : ArchiveRefusal) (old new more before after others : List ℕ) → GoesOn {A = Unit {0}} (Err refusal) old new more
    → GoesOn {A = Unit {0}} (Err refusal) before after others
goes_refused (Log refusals.DiskFault) old new more before after others g = tt
goes_refused (Log refusal) old new more before after others g = absurd g
goes_refused (TooLong bytes) old new more before after others g = absurd g
goes_refused NoMemory old new more before after others g = tt
