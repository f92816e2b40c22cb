-- The words that the proofs here use, passed on from one place. Declares nothing.
pub use Rattle.std.proofs.Common.{[], ap, append_assoc, arith, Bool, cond, drop, eqb, Err, false, get_or, IfOk, leb, length, length-append, length-drop, List}
pub use Rattle.std.proofs.Common.{ltb, None, not, Ok, Option, refl, replicate, Result, Some, subst, suc, sym, take, take-append-drop, true, vec_capacity}
pub use Rattle.std.proofs.Common.{zero, ℕ, ⊎_elim, ◌%◌, ◌&&◌, ◌*◌, ◌++◌, ◌+◌, ◌-◌, ◌/◌, ◌<◌, ◌^◌, ◌||◌, ◌∙◌, ◌∷◌, ◌≡◌, ◌≤◌}
pub use Rattle.std.proofs.lemmas.Bool.{cases_eq, cases_lt, eq-eqb, le-ltb, ltb-false, ne_eqb}
pub use Rattle.std.proofs.lemmas.Bool.Decides.{nat_tests}
pub use Rattle.std.proofs.lemmas.List.{drop-append-le, drop-drop, drop_at, ext_get_or, get_or-append_right, get_or-drop, get_or-take, get_or_append_left}
pub use Rattle.std.proofs.lemmas.List.{length-take, length-take-le, take-append-le, take_all}
pub use Rattle.std.specs.List.{list_all}
pub use Rattle.byteorder.specs.Endian.{little_from, little_number}
pub use Rattle.clfs_lsn.specs.Checks.{guard_ok, no_fault, pass_check, pass_guard, unless_ok, unless_wrong}
pub use Rattle.clfs_lsn.specs.Size.{sectors, size}
pub use Rattle.clfs_lsn.specs.declared.shape.Shape.{Shape}
pub use Rattle.clfs_block.specs.Building.{Building}
unfoldable pub use Rattle.clfs_block.specs.Checks.{frame_at, sectors_at}
pub use Rattle.clfs_block.specs.Checks.{address_place, first_failing, head_fault, head_for, head_of, is_wrong_count, is_wrong_records, IsFramed}
pub use Rattle.clfs_block.specs.Checks.{payload_place, rest_at}
pub use Rattle.clfs_block.specs.Frame.{address, address_in, AreBytes, head_bytes, payload_from, payload_of, place_of, SpellsBlock, used_bytes, used_payload}
pub use Rattle.clfs_block.specs.Judging.{AreJudgedAlone}
pub use Rattle.clfs_block.specs.RecordLaws.{block_same}
pub use Rattle.clfs_block.specs.declared.head.BlockHead.{BlockHead}
pub use Rattle.clfs_block.specs.declared.head.BlockRefusal.{BlockRefusal}
pub use Rattle.clfs_block.specs.declared.head.BlockRefusal.TheVariants.{BadByte, Closed}
