-- That what a disk in memory reads is one of its images. It stands here since a trait's law can cite definitions alone.
use Rattle.std.specs.Prelude.{ℕ, List, length, take, slice_index}
use Rattle.std.proofs.Common.{sym, subst, ap, arith}
use Rattle.std.proofs.lemmas.List.{take_all}
use Rattle.clfs_disk.specs.Files.{Unchanged}
use Rattle.clfs_disk.specs.Record.{Image, replay, at_rest}
use Rattle.clfs_disk.specs.Copies.{now_of, read_files, first_files}
use Rattle.clfs_disk.specs.declared.record.Event.{Event}
use Rattle.clfs_disk.specs.declared.copies.FileCopies.{FileCopies}

-- Nothing that is read differs from what is read, so no byte outside the pending ones does.
pub reads_as_image_of : (files : List FileCopies) (calls : List Event) (written : List ℕ)
    → Unchanged (now_of files calls written).files (read_files files)
    → Image (replay (at_rest (first_files files)) (take (length calls) calls) written) (read_files files)
reads_as_image_of files calls written read =
    subst (λ (l : List Event). Image (replay (at_rest (first_files files)) l written) (read_files files)) (sym (take_all (length calls) calls (omega arith)))
    (λ file. (ap (λ (l : List ℕ). length l) (read file), λ i free. ap (λ (l : List ℕ). slice_index l i) (read file)))
