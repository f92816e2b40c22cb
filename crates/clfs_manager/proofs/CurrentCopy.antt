-- The version of the newest copy.
use Rattle.clfs_manager.proofs.Words.{◌≡◌, ◌∙◌, false, sym, Result, IfOk, OnOk, DiskState, TellsContents, IsManaged, CopyIsCurrent, IsIntact, Log}
use Rattle.std.proofs.Common.{Ok, Err}
use Rattle.clfs_manager.specs.Written.{HaveCurrentCopy, IsCurrent}
use Rattle.clfs_manager.proofs.Intact.{managed_intact}

-- where memory has a copy of the second version, so have the files
pub current_on_disk : (disk : DiskState) (log : Log) → IsManaged disk log → log.state.value.broken ≡ false → IsCurrent log.physical.image
    → TellsContents disk → HaveCurrentCopy disk.files
current_on_disk disk log managed whole current tells =
    let opened = managed.whole (sym managed.broken ∙ whole) in
    record { slot = log.physical.slot; image = log.physical.image; newest = (opened.files tells).newest; current = current }

-- the same of a log that is intact where a call was answered
pub current_answered : {A E : Type 0} (result : Result A E) (disk : DiskState) (log : Log) → IfOk result (λ _. IsIntact disk log)
    → OnOk result (IsCurrent log.physical.image) → CopyIsCurrent result disk
current_answered {A} {E} (Ok value) disk log intact current = current_on_disk disk log (managed_intact disk log intact) intact.sound.whole current
current_answered {A} {E} (Err refused) disk log intact current = tt
