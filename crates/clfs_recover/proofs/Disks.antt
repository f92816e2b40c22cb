-- What stays over calls of a disk that change no file.
use Rattle.clfs_recover.proofs.Words.{Result, Ok, Err, refl, sym, ◌∙◌, subst, arith, OnOk, IfErr, Files, Unchanged, DiskState, TellsContents, IsSteady, Passes}
use Rattle.std.proofs.Common.{IsTrue}
use Rattle.clfs_disk.specs.Joining.{CallsJoin}
use Rattle.clfs_disk.specs.State.{Nature, IsSettled}

-- a disk that tells its contents tells them still
pub tells_still : (change : Files → Files → Type 0) (old new : DiskState) → Passes change old new → TellsContents old → TellsContents new
tells_still change old new time tells = subst (λ (n : Nature). IsTrue n.tells_contents) (sym time.nature) tells

-- and a steady one is steady still
pub steady_still : (change : Files → Files → Type 0) (old new : DiskState) → Passes change old new → IsSteady old → IsSteady new
steady_still change old new time steady = subst (λ (n : Nature). IsTrue n.steady) (sym time.nature) steady

-- no time went on where no call was made
pub no_time : (disk : DiskState) → Passes Unchanged disk disk
no_time disk = record {
  later = omega arith;
  past = λ moment image le left. left;
  kept = λ moment image le left. left;
  images = λ moment image after until left. absurd (omega (arith, after, until));
  faults = omega arith;
  nature = refl;
}

-- What was settled is settled still after reads.
pub settled_still : {D : Type 0} (state : D → DiskState) → CallsJoin state → (a b : D) → IsSettled (state a) → Passes Unchanged (state a) (state b)
    → Unchanged (state a).files (state b).files → IsSettled (state b)
settled_still state join a b settled time same = record {
  honest = subst (λ (n : Nature). IsTrue n.tells_contents × IsTrue n.tells_images) (sym time.nature) settled.honest;
  only = λ image left file. (join.left_by_reads a b settled time).each (state b).clock image time.later (omega arith) left file ∙ sym (same file);
}

-- what holds whatever the answer
pub always : {T E P : Type 0} (r : Result T E) → P → OnOk r P
always (Ok value) p = p
always (Err e) p = tt

-- what holds whatever the answer, said of the refusals of a kind
pub of_refusals : {T E P : Type 0} (Q : E → Type 0) (r : Result T E) → P → IfErr r (λ e. Q e → P)
of_refusals Q (Ok value) p = tt
of_refusals Q (Err e) p = λ q. p
