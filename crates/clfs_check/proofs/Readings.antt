-- What reads one after the other leave of a disk.
use Rattle.std.proofs.Common.{IsTrue, Result, Ok, Err, refl, sym, ◌∙◌, ◌≡◌, subst, arith}
use Rattle.std.specs.Prelude.{OnOk, OnErr}
use Rattle.std.proofs.lemmas.Result.{on_err_weaker}
use Rattle.clfs_disk.specs.Joining.{CallsJoin}
use Rattle.clfs_disk.specs.Files.{Unchanged}
use Rattle.clfs_disk.specs.State.{DiskState, Nature, TellsContents, IsSteady, IsSettled, Passes, Rises}
use Rattle.clfs_disk.specs.declared.disk.Failed.{Failed}
use Rattle.clfs_check.specs.Lengths.{OnlyReads}

-- a disk that tells its contents tells them still
pub tells_still : (old new : DiskState) → Passes Unchanged old new → TellsContents old → TellsContents new
tells_still old new time tells = subst (λ (n : Nature). IsTrue n.tells_contents) (sym time.nature) tells

-- and a steady one is steady still
pub steady_still : (old new : DiskState) → Passes Unchanged old new → IsSteady old → IsSteady new
steady_still old new time steady = subst (λ (n : Nature). IsTrue n.steady) (sym time.nature) steady

-- what holds whatever the answer
pub always : {T E P : Type 0} (r : Result T E) → P → OnOk r P
always (Ok value) p = p
always (Err e) p = tt

pub always_failed : {T E P : Type 0} (r : Result T E) → P → OnErr r P
always_failed (Ok value) p = tt
always_failed (Err e) p = p

-- the disk after reads of which none failed
pub record WasRead (first now : DiskState) : Type 0 where
  pub same : Unchanged first.files now.files
  pub time : Passes Unchanged first now
  pub steady : IsSteady first → now.faults ≡ first.faults

-- no time went on where no call was made
pub unread : (disk : DiskState) → WasRead disk disk
unread disk = record {
  same = λ file. refl;
  time = record {
    later = omega arith;
    past = λ moment image le left. left;
    kept = λ moment image le left. left;
    images = λ moment image after until left. absurd (omega (arith, after, until));
    faults = omega arith;
    nature = refl;
  };
  steady = λ steady. refl;
}

-- one more read
pub read_on : {D : Type 0} (state : D → DiskState) → CallsJoin state → (first now new : D) → WasRead (state first) (state now)
    → Unchanged (state now).files (state new).files → Passes Unchanged (state now) (state new)
    → (IsSteady (state now) → (state new).faults ≡ (state now).faults) → WasRead (state first) (state new)
read_on state join first now new was same time steady = record {
  same = λ file. same file ∙ was.same file;
  time = join.reads first now new was.time time;
  steady = λ s. steady (steady_still (state first) (state now) was.time s) ∙ was.steady s;
}

-- all reads were answered
pub all_read : {A : Type 0} (value : A) (first now : DiskState) → WasRead first now → OnlyReads (Ok value) first now
all_read value first now was = record { same = was.same; time = was.time; cause = tt; steady = λ s. (refl, was.steady s) }

-- and one wasn't
pub one_failed : {D A : Type 0} (state : D → DiskState) → CallsJoin state → (r : Result A Failed) (first now new : D) → WasRead (state first) (state now)
    → Unchanged (state now).files (state new).files → Passes Unchanged (state now) (state new) → Rises (state now).faults (state new).faults
    → (IsSteady (state now) → ⊥) → OnlyReads r (state first) (state new)
one_failed state join r first now new was same time rises never = record {
  same = λ file. same file ∙ was.same file;
  time = join.reads first now new was.time time;
  cause = always_failed r (omega (arith, was.time.faults, rises));
  steady = λ s. absurd (never (steady_still (state first) (state now) was.time s));
}

-- more reads after these
pub reads_then : {D A : Type 0} (state : D → DiskState) → CallsJoin state → (r : Result A Failed) (first now new : D) → WasRead (state first) (state now)
    → OnlyReads r (state now) (state new) → OnlyReads r (state first) (state new)
reads_then state join r first now new was reads = record {
  same = λ file. reads.same file ∙ was.same file;
  time = join.reads first now new was.time reads.time;
  cause = on_err_weaker r (λ rises. omega (arith, was.time.faults, rises)) reads.cause;
  steady = λ s. let so = reads.steady (steady_still (state first) (state now) was.time s) in (so.0, so.1 ∙ was.steady s);
}

-- What was settled is settled still after reads.
pub settled_still : {D : Type 0} (state : D → DiskState) → CallsJoin state → (a b : D) → IsSettled (state a) → Passes Unchanged (state a) (state b)
    → Unchanged (state a).files (state b).files → IsSettled (state b)
settled_still state join a b settled time same = record {
  honest = subst (λ (n : Nature). IsTrue n.tells_contents × IsTrue n.tells_images) (sym time.nature) settled.honest;
  only = λ image left file. (join.left_by_reads a b settled time).each (state b).clock image time.later (omega arith) left file ∙ sym (same file);
}
