-- A fault of the disk is told by no bytes.
use Rattle.std.proofs.Common.{◌≡◌, Result, Ok, Err, [], refl, sym, subst, arith}
use Rattle.std.specs.Prelude.{IfErr, IsErrAnd}
use Rattle.clfs_base.specs.declared.refusal.NewestRefusal.TheVariants as newest
use Rattle.clfs_recover.specs.Telling.{TellsOpening}
use Rattle.clfs_recover.specs.declared.refusal.LoadRefusal.{LoadRefusal}
use Rattle.clfs_recover.specs.declared.refusal.LoadRefusal.TheVariants.{DiskFault}

pub fault_told : TellsOpening DiskFault
fault_told = record {
  newest = Err newest.DiskFault;
  copy = record { first = []; second = []; bytes = []; few_first = omega arith; few_second = omega arith; few = omega arith; read = tt };
  told = refl;
}

pub faults_told : {T : Type 0} (result : Result T LoadRefusal) → IsErrAnd result (λ e. e ≡ DiskFault) → IfErr result TellsOpening
faults_told (Ok x) fault = absurd fault
faults_told (Err e) fault = subst TellsOpening (sym fault) fault_told
