-- What the files of a log that has just been made stand for.
use Rattle.clfs_manager.proofs.Words.{◌≡◌, ◌≢◌, inl, inr, ⊎_elim, ℕ, ◌<◌, Bool, true, false, List, [], ◌∷◌, length, refl, sym, ◌∙◌, ap, subst, arith}
use Rattle.clfs_manager.proofs.Words.{slice_index, Result, if◌then◌else◌, nat_le, nat_tests, lsn_number, Shape, LogEntry, Files, DiskState, BlockRefusal}
use Rattle.clfs_manager.proofs.Words.{Parts, LoadRefusal, StandsFor}
use Rattle.std.proofs.Common.{Ok, Err}
use Rattle.clfs_lsn.specs.Format.{open_gate}
use Rattle.clfs_block.specs.Checks.{frame_at}
use Rattle.clfs_block.specs.declared.head.BlockHead.{BlockHead}
use Rattle.clfs_block.specs.declared.head.BlockRefusal.TheVariants as blocks
use Rattle.clfs_model.specs.State.{fresh}
use Rattle.clfs_base.specs.Writing.{HasNoCopy}
use Rattle.clfs_recover.specs.Walk.{Container, end_at, blocks_end, walked, parts_with}
use Rattle.clfs_recover.specs.Files.{FindsBehind}
use Rattle.clfs_format.specs.Making.{first_image, IsMade, IsMadeAtOnce}
use Rattle.clfs_manager.specs.Formatting.{ComesAtOnce}

-- a gate that is there and closed is no block
closed_frame : (shape : Shape) (start : ℕ) (bytes : List ℕ) → 0 < length bytes → slice_index bytes 0 ≢ open_gate → frame_at shape start bytes ≡ Err blocks.Closed
unfolding frame_at
closed_frame shape start bytes there closed = grind (arith, nat_tests)

-- container 1 of files, without blocks
abbrev first_container : Files → Container
first_container files = record { bytes = files 1; blocks = [] }

-- what is opened
abbrev made_parts : Shape → Bool → ℕ → Files → Parts
made_parts shape dedicated containers files = parts_with 0 (first_image shape dedicated containers) (first_container files ∷ []) []

no_records : (shape : Shape) (bytes : List ℕ) → 0 < length bytes → slice_index bytes 0 ≢ open_gate → blocks_end shape 1 bytes 0 ≡ Ok []
no_records shape bytes there closed =
    ap (λ (r : Result BlockHead BlockRefusal). if nat_le shape.container_sectors 0 then Ok [] else end_at 1 0 r)
    (closed_frame shape (lsn_number 1 0 0) bytes there closed) ∙ either (nat_le shape.container_sectors 0)
  where
    none : Result (List LogEntry) LoadRefusal
    none = Ok []

    either : (b : Bool) → (if b then none else none) ≡ none
    either true = refl
    either false = refl

-- the walk finds no records
walked_made : (shape : Shape) (dedicated : Bool) (containers : ℕ) (files : Files) → IsMade shape dedicated containers files
    → walked 0 (first_image shape dedicated containers) (first_container files ∷ []) ≡ Ok (made_parts shape dedicated containers files)
walked_made shape dedicated containers files made = rw (no_records shape (files 1) made.there made.closed) refl

-- files that were just made stand for a fresh log
pub stands_for_fresh : (shape : Shape) (dedicated : Bool) (containers buffers : ℕ) (files : Files) → IsMade shape dedicated containers files
    → StandsFor files (fresh shape dedicated containers buffers)
stands_for_fresh shape dedicated containers buffers files made = record {
  parts = made_parts shape dedicated containers files;
  found = subst (FindsBehind files (Ok (made_parts shape dedicated containers files))) (sym made.newest)
      (first_container files ∷ [], (refl, (shape.container_sectors, refl, inr (inl made.closed)), tt), sym (walked_made shape dedicated containers files made));
  is = refl;
}

-- the log comes to be there at once
pub comes_at_once : (shape : Shape) (dedicated : Bool) (containers : ℕ) (old new : DiskState) → IsMadeAtOnce shape dedicated containers old new
    → ComesAtOnce shape dedicated containers old new
comes_at_once shape dedicated containers old new once = record {
  since = once.since;
  begun = once.begun;
  ended = once.ended;
  none = once.none;
  later = λ moment image from until at. ⊎_elim
      (λ (none : HasNoCopy image). inl none)
      (λ (made : IsMade shape dedicated containers image). inr (λ buffers. stands_for_fresh shape dedicated containers buffers image made))
      (once.later moment image from until at);
}
