use Rattle.clfs_base.proofs.Words.{ℕ, List, Result, ap, subst, sym, ◌∙◌, length, ◌≤◌, err_from_is_err_and, NewestRefusal, slot_bytes, image_at, slot_of}
use Rattle.clfs_base.proofs.Words.{copy_in, copy_of, GivesNewest}
use Rattle.std.proofs.Common.{IsTrue}
use Rattle.clfs_disk.specs.State.{Nature, TellsContents}
use Rattle.clfs_base.proofs.CopyReads.{used_outside, none_used, copy_by}
use Rattle.clfs_base.proofs.newest.read_newest.Goals as goal

pub returns-clause-newest : goal.returns-clause-newest
returns-clause-newest g c tells =
    let base : List ℕ = (g.D.Disk.state c.args.disk.now).files 0 in
    let later : TellsContents (g.D.Disk.state c.read_used.new.disk) =
    subst (λ (k : Nature). IsTrue k.tells_contents) (sym c.in_ok-slot.ensures.time.nature) tells in
    let read = c.deref.ensures.value ∙ c.in_ok-bytes.ensures.bytes later ∙ ap (λ (l : List ℕ). slot_of l c.in_ok-slot.slot) (c.in_ok-slot.ensures.same 0) in
    subst (λ (used : Result ℕ NewestRefusal). GivesNewest c.decode_slot.result (copy_of base used)) (sym (c.in_ok-slot.ensures.used tells))
    (subst (λ (bytes : List ℕ). GivesNewest c.decode_slot.result (copy_in c.in_ok-slot.slot (image_at bytes))) read
    c.decode_slot.ensures.newest)

pub returns-clause-time : goal.returns-clause-time
returns-clause-time g c = c.calls_join.ensures.reads _ _ _ c.in_ok-slot.ensures.time c.in_ok-bytes.ensures.time

pub returns-in_err-slot-clause-told : goal.returns-in_err-slot-clause-told
returns-in_err-slot-clause-told g c =
    let p = err_from_is_err_and c.from_residual.result c.from_residual.ensures.1 in
    rw (p.1, p.2) (none_used c.in_err-slot.field-0.0 c.in_err-slot.ensures.told)

pub returns-in_err-bytes-clause-told : goal.returns-in_err-bytes-clause-told
returns-in_err-bytes-clause-told g c =
    let p = err_from_is_err_and c.from_residual-in_err-bytes.result c.from_residual-in_err-bytes.ensures.1 in
    rw (p.1, p.2) (none_used c.in_err-bytes.field-0.0 (used_outside c.in_err-bytes.field-0.0 c.in_err-bytes.ensures.refusal))

pub returns-clause-told : goal.returns-clause-told
returns-clause-told g c = copy_by c.decode_slot.result c.in_ok-slot.slot c.deref.result.now c.in_ok-slot.ensures.told
    (subst (λ (l : List ℕ). length l ≤ slot_bytes) (sym c.deref.ensures.value) c.in_ok-bytes.ensures.few) c.decode_slot.ensures.newest
