-- What is read of an archive as it was written.
use Rattle.std.specs.Prelude.{ℕ, ◌+◌, List, [], ◌∷◌}
use Rattle.clfs_container.specs.OpenBlocks.{total}
use Rattle.clfs_base.specs.declared.image.BaseImage.{BaseImage}
use Rattle.clfs_archive_form.specs.declared.archive.Archive.{Archive}
use Rattle.clfs_archive_form.specs.declared.archive.Stored.{Stored}
use Rattle.clfs_archive_form.specs.Form.{containers_at, piece_header, archived_image}

-- where containers stand one after the other, the first at a byte: each has an id and blocks
abbrev pub pieces_at : ℕ → List (ℕ × List (List ℕ)) → List Stored
pieces_at at [] = []
pieces_at at (piece ∷ pieces) =
    record { container = piece.0; at = at + piece_header; len = total piece.1 } ∷ pieces_at (at + piece_header + total piece.1) pieces

-- the archive of a base copy and of containers, as it is read of an input that has nothing else
abbrev pub archive_alone : BaseImage → List (ℕ × List (List ℕ)) → Archive
archive_alone image pieces = record { image = archived_image image; containers = pieces_at containers_at pieces }
