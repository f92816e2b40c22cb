-- Of which bytes damage is told when a log is opened.
use Rattle.clfs_recover.proofs.Words.{◌≡◌, inr, ℕ, ◌+◌, ◌*◌, ◌%◌, ◌<◌, List, [], take, Ok, Err, refl, sym, ◌∙◌, subst, arith, lsn_number, IsShape, LogEntry}
use Rattle.clfs_recover.proofs.Words.{Shape, BaseImage, Row, NewestRefusal, AreJudgedAlone, AreReadAsWritten, block_records, block_same, without_copy}
use Rattle.clfs_recover.proofs.Words.{GathersBlock, TellsBlock, TellsBehind, TellsOpening, LoadRefusal, NoBase, Damaged, DiskFault, NoMemory}
use Rattle.std.proofs.Common.{length-take}
use Rattle.clfs_base.specs.declared.refusal.NewestRefusal.TheVariants as newest
use Rattle.clfs_base.specs.Reading.{IsReadCopy}
use Rattle.clfs_recover.specs.Telling.{IsWrongBlock}

-- a block that is refused is told of the bytes that were judged, as many as a largest block has
pub block_told : AreJudgedAlone → AreReadAsWritten → (shape : Shape) (streams id offset : ℕ) (bytes : List ℕ) → IsShape shape → offset % 512 ≡ 0
    → offset < 512 * shape.container_sectors → (has : List LogEntry → Type 0) (rows : List Row) (moved : List ℕ) (before : List LogEntry)
    (refusal : LoadRefusal) → GathersBlock has rows moved before id offset (Err refusal) (block_records shape streams (lsn_number id offset 0) bytes)
    → TellsBlock shape streams id 1 refusal
block_told judged written shape streams id offset bytes good whole near has rows moved before NoBase gathers = gathers
block_told judged written shape streams id offset bytes good whole near has rows moved before (Damaged c o at) gathers =
    let count : ℕ = 512 * shape.block_sectors in
    let same = block_same judged written.holds shape streams (lsn_number id offset 0) bytes count
    (record { first = omega (arith, good.some_sectors); all = inr (omega arith) }) in
    let here : IsWrongBlock shape streams id offset at = record {
      whole = whole;
      within = near;
      bytes = take count bytes;
      few = omega (arith, length-take count bytes);
      wrong = same ∙ gathers.2;
    } in (
      omega (arith, gathers.0),
      omega (arith, gathers.0),
      subst (λ (n : ℕ). IsWrongBlock shape streams n o at) (sym gathers.0) (subst (λ (n : ℕ). IsWrongBlock shape streams id n at) (sym gathers.1) here),
    )
block_told judged written shape streams id offset bytes good whole near has rows moved before DiskFault gathers = tt
block_told judged written shape streams id offset bytes good whole near has rows moved before NoMemory gathers = tt

-- what is told of one container is told of all
pub listed_told : (shape : Shape) (streams first i count : ℕ) (refusal : LoadRefusal) → i < count → TellsBlock shape streams (first + i) 1 refusal
    → TellsBlock shape streams first count refusal
listed_told shape streams first i count NoBase within is = is
listed_told shape streams first i count (Damaged c o at) within is = (omega (arith, is.0), omega (arith, is.1, within), is.2)
listed_told shape streams first i count DiskFault within is = tt
listed_told shape streams first i count NoMemory within is = tt

-- a fault is told by no bytes
pub fault_told : TellsOpening DiskFault
fault_told = record {
  newest = Err newest.DiskFault;
  copy = record { first = []; second = []; bytes = []; few_first = omega arith; few_second = omega arith; few = omega arith; read = tt };
  told = refl;
}

-- why there is no base copy is told by what was read of the slots
pub reason_told : (reason : NewestRefusal) → IsReadCopy (Err reason) → TellsOpening (without_copy reason)
reason_told reason copy = record { newest = Err reason; copy = copy; told = refl }

-- what is told after a base copy is told by it
pub behind_told : (slot : ℕ) (image : BaseImage) (refusal : LoadRefusal) → IsReadCopy (Ok (slot, image)) → TellsBehind slot image refusal
    → TellsOpening refusal
behind_told slot image refusal copy told = record { newest = Ok (slot, image); copy = copy; told = told }
