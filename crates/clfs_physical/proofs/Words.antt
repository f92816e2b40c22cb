-- The words that the proofs here use, passed on from one place. Declares nothing.
pub use Rattle.std.proofs.Common.{[], ap, arith, Bool, cond, drop, eqb, false, get_or, inl, inr, IsTrue, length, length-append, length-drop, List, max, refl}
pub use Rattle.std.proofs.Common.{subst, sym, true, ℕ, ⊎_elim, ◌%◌, ◌*◌, ◌++◌, ◌+◌, ◌-◌, ◌<◌, ◌∙◌, ◌∷◌, ◌≡◌, ◌≢◌, ◌≤◌, ◌⊎◌}
pub use Rattle.std.proofs.Math.ListN.{get_or-append}
pub use Rattle.std.proofs.Math.Seq.{get_or-append_seam}
pub use Rattle.std.proofs.lemmas.Bool.{cases_eq, cases_lt, eq-eqb}
pub use Rattle.std.proofs.lemmas.Bool.Decides.{nat_tests}
pub use Rattle.std.proofs.lemmas.List.{get_or-drop}
pub use Rattle.std.proofs.lemmas.Result.{on_ok_weaker}
pub use Rattle.clfs_base.specs.Slots.{newest_of}
pub use Rattle.clfs_base.specs.Spelling.{AreFiles, current, IsImage}
pub use Rattle.clfs_base.specs.Writing.{EitherNewest, HasNewest}
pub use Rattle.clfs_base.specs.declared.image.BaseImage.{BaseImage}
pub use Rattle.clfs_base.specs.declared.image.Row.{Row}
pub use Rattle.clfs_container.specs.OpenBlocks.{AreWhole}
pub use Rattle.clfs_container.specs.Writing.{HasBlocks, IsBehind}
pub use Rattle.clfs_disk.specs.Files.{Files, TornIn}
pub use Rattle.clfs_disk.specs.State.{DiskState, IsSettled, Leaves, Nature, Passes}
pub use Rattle.clfs_physical.specs.Changes.{changed, listed_from, next_copy, with_containers, with_file, with_next_turn, with_stream}
pub use Rattle.clfs_physical.specs.Joined.{GrownAbove, HasGroup, HasNone, SameLengths}
pub use Rattle.clfs_physical.specs.Stored.{AreMade, Blocks, Holds, IsIn, IsLog, IsPlaced, Lists, Newest, Stores, with_blocks, with_group}
pub use Rattle.clfs_physical.specs.Taking.{IsFree, low_of, taken_of}
pub use Rattle.clfs_physical.specs.declared.change.Change.{Change}
