-- What reads one after the other leave of a disk.
use Rattle.clfs_dump.proofs.Words.{Result, Ok, refl, sym, ◌∙◌, ◌≡◌, subst, arith, Unchanged, TellsContents, DumpRefusal, DiskFault}
use Rattle.std.proofs.Common.{IsTrue}
use Rattle.std.specs.Prelude.{IsErrOf}
use Rattle.clfs_disk.specs.Joining.{CallsJoin}
use Rattle.clfs_disk.specs.State.{DiskState, Nature, IsSteady, Passes, Rises}
use Rattle.clfs_dump.specs.Printing.{OnlyReads}

-- a disk that tells its contents tells them still
pub tells_still : (old new : DiskState) → Passes Unchanged old new → TellsContents old → TellsContents new
tells_still old new time tells = subst (λ (n : Nature). IsTrue n.tells_contents) (sym time.nature) tells

-- and a steady one is steady still
pub steady_still : (old new : DiskState) → Passes Unchanged old new → IsSteady old → IsSteady new
steady_still old new time steady = subst (λ (n : Nature). IsTrue n.steady) (sym time.nature) steady

-- so far the disk was only read, and every read was answered
pub record WasRead (first now : DiskState) : Type 0 where
  pub same : Unchanged first.files now.files
  pub time : Passes Unchanged first now
  pub steady : IsSteady first → now.faults ≡ first.faults

-- no call yet
pub unread : (disk : DiskState) → WasRead disk disk
unread disk = record {
  same = λ file. refl;
  time = record {
    later = omega arith;
    past = λ moment image le left. left;
    kept = λ moment image le left. left;
    images = λ moment image after until left. absurd (omega (arith, after, until));
    faults = omega arith;
    nature = refl;
  };
  steady = λ steady. refl;
}

module _ {D : Type 0} (state : D → DiskState) (join : CallsJoin state) (first now new : D) (was : WasRead (state first) (state now)) where
  -- one more read
  pub read_on : Unchanged (state now).files (state new).files → Passes Unchanged (state now) (state new)
      → (IsSteady (state now) → (state new).faults ≡ (state now).faults) → WasRead (state first) (state new)
  read_on same time steady = record {
    same = λ file. same file ∙ was.same file;
    time = join.reads first now new was.time time;
    steady = λ s. steady (steady_still (state first) (state now) was.time s) ∙ was.steady s;
  }

  -- more reads
  pub reads_then : {T S : Type 0} (r : Result T DumpRefusal) (q : Result S DumpRefusal) → (IsErrOf r DiskFault → IsErrOf q DiskFault)
      → OnlyReads q (state now) (state new) → OnlyReads r (state first) (state new)
  reads_then r q only reads = record {
    same = λ file. reads.same file ∙ was.same file;
    time = join.reads first now new was.time reads.time;
    cause = λ is. omega (arith, was.time.faults, reads.cause (only is));
    steady = λ s. let so = reads.steady (steady_still (state first) (state now) was.time s) in (λ is. so.0 (only is), so.1 ∙ was.steady s);
  }

  -- a read that failed
  pub one_failed : {T : Type 0} (r : Result T DumpRefusal) → Unchanged (state now).files (state new).files
      → Passes Unchanged (state now) (state new) → Rises (state now).faults (state new).faults → (IsSteady (state now) → ⊥)
      → OnlyReads r (state first) (state new)
  one_failed r same time rises never = record {
    same = λ file. same file ∙ was.same file;
    time = join.reads first now new was.time time;
    cause = λ is. omega (arith, was.time.faults, rises);
    steady = λ s. absurd (never (steady_still (state first) (state now) was.time s));
  }

-- what was read, and no disk fault is answered
pub all_read : {T : Type 0} (r : Result T DumpRefusal) (first now : DiskState) → (IsErrOf r DiskFault → ⊥) → WasRead first now → OnlyReads r first now
all_read r first now never was = record {
  same = was.same;
  time = was.time;
  cause = λ is. absurd (never is);
  steady = λ s. (never, was.steady s);
}

-- what was read, and a value is answered
pub all_answered : {T : Type 0} (value : T) (first now : DiskState) → WasRead first now → OnlyReads {T = T} (Ok value) first now
all_answered {T = T} value first now was = all_read {T = T} (Ok value) first now (λ is. absurd (cc is)) was
