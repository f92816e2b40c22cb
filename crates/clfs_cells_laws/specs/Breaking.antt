-- The replies of a table that tell what its log met on the disk, and after which the log answers nothing else.
use Rattle.std.specs.Prelude.{Bool, true, false, Result, Err}
use Rattle.clfs_model.specs.declared.refusal.Refusal.{Refusal}
use Rattle.clfs_model.specs.declared.refusal.Refusal.TheVariants as log_refusals
use Rattle.clfs_cells.specs.declared.asked.TxnCall.{TxnCall}
use Rattle.clfs_cells.specs.declared.asked.TxnCall.TheVariants as asked
use Rattle.clfs_cells.specs.declared.told.TxnLoadRefusal.{TxnLoadRefusal}
use Rattle.clfs_cells.specs.declared.told.TxnLoadRefusal.TheVariants.{Log}
use Rattle.clfs_cells.specs.declared.told.TxnRefusal.TheVariants as refusals
use Rattle.clfs_cells.specs.declared.told.TxnReply.{TxnReply}
use Rattle.clfs_cells.specs.declared.told.TxnReply.TheVariants as replies
use Rattle.clfs_cells.specs.Stored.{Memory}

-- a fault of the disk, or damage
abbrev pub breaks_log : Refusal → Bool
breaks_log log_refusals.DiskFault = true
breaks_log (log_refusals.Damaged container offset at) = true
breaks_log _ = false

-- a reply that tells one of them
abbrev pub tells_break : TxnReply → Bool
tells_break (replies.Refused (refusals.Log refusal)) = breaks_log refusal
tells_break _ = false

-- a reply that tells that the disk failed
abbrev pub tells_table_fault : TxnReply → Bool
tells_table_fault (replies.Refused (refusals.Log log_refusals.DiskFault)) = true
tells_table_fault _ = false

-- a reply that tells that bytes of the disk aren't those of a log
abbrev pub tells_table_damage : TxnReply → Bool
tells_table_damage (replies.Refused (refusals.Log (log_refusals.Damaged container offset at))) = true
tells_table_damage _ = false

-- a reply that tells that an earlier call met one of the two
abbrev pub tells_table_broken : TxnReply → Bool
tells_table_broken (replies.Refused (refusals.Log log_refusals.Broken)) = true
tells_table_broken _ = false

-- a loading that ends with one of the two
abbrev pub breaks_loading : Result Memory TxnLoadRefusal → Bool
breaks_loading (Err (Log refusal)) = breaks_log refusal
breaks_loading _ = false

-- the calls that read records of the log: those that take sets back
abbrev pub reads_back : TxnCall → Bool
reads_back (asked.Back number kept) = true
reads_back (asked.Rollback number) = true
reads_back _ = false
