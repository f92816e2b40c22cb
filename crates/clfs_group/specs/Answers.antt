-- What a group answers, and why it refuses.
use Rattle.std.specs.Prelude.{◌≡◌, ℕ, ◌==◌, Bool, true, false, List, [], ◌∷◌, ◌++◌, Result, Ok, Err}
use mathlib.Core.List.{IsPrefix}
use Rattle.clfs_model.specs.declared.call.Call.{Call}
use Rattle.clfs_model.specs.declared.journal.Entry.{Entry}
use Rattle.clfs_model.specs.declared.refusal.Refusal.{Refusal}
use Rattle.clfs_model.specs.declared.refusal.Refusal.TheVariants as refusals
use Rattle.clfs_model.specs.declared.reply.Reply.{Reply}
use Rattle.clfs_model.specs.declared.reply.Reply.TheVariants as replies
use Rattle.clfs_shared.specs.Journal.{entry_of}

-- the log's answer to a flush up to an LSN, by the group's
abbrev pub flush_reply : Result ℕ Refusal → Reply
flush_reply (Ok lsn) = replies.Flushed lsn
flush_reply (Err given) = replies.Refused given

-- The reply to a call of a client stands in a list of entries, after all of these that were seen.
pub record StandsBehind (seen : List Entry) (client : ℕ) (call : Call) (reply : Reply) (all : List Entry) : Type 0 where
  pub before : List Entry
  pub rest : List Entry
  pub number : ℕ
  pub begins : IsPrefix seen before
  pub there : all ≡ before ++ entry_of client number call reply ∷ rest

-- the LSN that a call placed a record at, if it did
abbrev pub placed_by : Reply → List ℕ
placed_by (replies.Placed lsn) = lsn ∷ []
placed_by _ = []

-- the LSNs at which these entries placed records
abbrev pub placed_lsns : List Entry → List ℕ
placed_lsns [] = []
placed_lsns (entry ∷ entries) = placed_by entry.reply ++ placed_lsns entries

-- a new group: memory, a broken log, no such stream, an area too many
abbrev pub may_refuse_group : Refusal → Bool
may_refuse_group refusals.NoMemory = true
may_refuse_group refusals.Broken = true
may_refuse_group refusals.NoSuchStream = true
may_refuse_group (refusals.AreaLimit count) = true
may_refuse_group _ = false

-- a flush up to this LSN: memory, the disk, a broken log, or that no record has the LSN yet
abbrev pub may_refuse_flush : ℕ → Refusal → Bool
may_refuse_flush lsn refusals.NoMemory = true
may_refuse_flush lsn refusals.DiskFault = true
may_refuse_flush lsn refusals.Broken = true
may_refuse_flush lsn (refusals.RecordNonexistent at) = at == lsn
may_refuse_flush lsn _ = false
