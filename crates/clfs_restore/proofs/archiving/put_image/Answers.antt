use Rattle.clfs_restore.proofs.Words.{◌≡◌, ℕ, ◌+◌, ◌<◌, List, ◌++◌, drop, length, map, get_or, sym, ◌∙◌, ap, subst, arith, err_from_is_err_and, get_or-drop}
use Rattle.clfs_restore.proofs.Words.{length-drop, flat_map, shape_of, piece_bytes, front_bytes, AreReadable, TellsContainer, pieces_from}
use Rattle.clfs_restore.proofs.Archived.{skipped, archive_is}
use Rattle.clfs_restore.proofs.Joining.{goes_refused}
use Rattle.clfs_restore.proofs.Pieces.{readable_from}
use Rattle.clfs_restore.proofs.Told.{archived_told}
use Rattle.clfs_restore.proofs.archiving.put_image.Goals as goal

pub put_containers-requires-clause-files : goal.put_containers-requires-clause-files
put_containers-requires-clause-files g c i within =
    let image = c.args.image.now in
    let k = skipped image in
    let is = c.archived_files-numbers.ensures in
    let there = subst (λ (l : List ℕ). i < length l) is within in
    let at = ap (λ (l : List ℕ). get_or l i 0) is ∙ get_or-drop k image.files i 0 in
    omega (arith, at, c.requires.image.files.to_last (k + i) (omega (arith, there, length-drop k image.files)), c.requires.image.few_made)

pub put_containers-requires-clause-ids : goal.put_containers-requires-clause-ids
put_containers-requires-clause-ids g c =
    let image = c.args.image.now in
    let len = ap length c.archived_files-numbers.ensures ∙ length-drop (skipped image) image.files in
    omega (arith, len, c.requires.image.last_id, c.skipped.ensures.value, c.skipped.ensures.fits)

pub returns-in_err-put_containers-clause-archive : goal.returns-in_err-put_containers-clause-archive
returns-in_err-put_containers-clause-archive g c told blocks entries whole read =
    let p = err_from_is_err_and c.from_residual-in_err-put_containers.result c.from_residual-in_err-put_containers.ensures.1 in
    let image = c.args.image.now in
    let files = (g.D.Disk.state c.args.manager.now.1).files in
    let from : image.first + skipped image ≡ image.first + c.skipped.result = ap (λ (n : ℕ). image.first + n) (sym c.skipped.ensures.value) in
    let readable = subst (λ (n : ℕ). AreReadable (shape_of image) (length image.streams) n files c.archived_files-numbers.result.now blocks) from
    (subst (λ (l : List ℕ). AreReadable (shape_of image) (length image.streams) (image.first + skipped image) files l blocks) (sym c.archived_files-numbers.ensures)
    (readable_from (shape_of image) (length image.streams) image.first (skipped image) files image.files blocks entries whole read)) in
    rw (p.1, p.2) (goes_refused c.in_err-put_containers.field-0.0 _ _ _ _ _ _ (c.in_err-put_containers.ensures.blocks told blocks readable))

pub returns-clause-archive : goal.returns-clause-archive
returns-clause-archive g c told blocks entries whole read =
    let image = c.args.image.now in
    let numbers = c.archived_files-numbers.result.now in
    let files = (g.D.Disk.state c.args.manager.now.1).files in
    let from : image.first + skipped image ≡ image.first + c.skipped.result = ap (λ (n : ℕ). image.first + n) (sym c.skipped.ensures.value) in
    let readable = subst (λ (n : ℕ). AreReadable (shape_of image) (length image.streams) n files numbers blocks) from
    (subst (λ (l : List ℕ). AreReadable (shape_of image) (length image.streams) (image.first + skipped image) files l blocks) (sym c.archived_files-numbers.ensures)
    (readable_from (shape_of image) (length image.streams) image.first (skipped image) files image.files blocks entries whole read)) in
    let P = flat_map piece_bytes (pieces_from (image.first + c.skipped.result) (map blocks numbers)) in
    c.in_ok-put_containers.ensures.blocks told blocks readable
    ∙ ap (λ (l : List ℕ). l ++ P) (c.in_ok-put_front.ensures.added ∙ ap (λ (l : List ℕ). l ++ front_bytes image (length numbers)) c.requires.empty)
    ∙ ap (λ (n : ℕ). front_bytes image (length numbers) ++ flat_map piece_bytes (pieces_from n (map blocks numbers))) (sym from)
    ∙ archive_is image blocks numbers c.archived_files-numbers.ensures

pub returns-in_err-put_containers-clause-damage : goal.returns-in_err-put_containers-clause-damage
returns-in_err-put_containers-clause-damage g c =
    let p = err_from_is_err_and c.from_residual-in_err-put_containers.result c.from_residual-in_err-put_containers.ensures.1 in
    let image = c.args.image.now in
    let refusal = c.in_err-put_containers.field-0.0 in
    let Tells : ℕ → List ℕ → Type 0 = λ skips numbers. TellsContainer (shape_of image) (length image.streams) (image.first + skips) (length numbers) refusal in
    rw (p.1, p.2) (archived_told image refusal (subst (λ (n : ℕ). Tells n (drop (skipped image) image.files)) c.skipped.ensures.value
    (subst (Tells c.skipped.result) c.archived_files-numbers.ensures c.in_err-put_containers.ensures.damage)))
