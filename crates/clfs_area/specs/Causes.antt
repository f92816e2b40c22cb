-- Why each call of a shared area may be refused.
use Rattle.std.specs.Prelude.{◌≡◌, ◌≢◌, ◌<◌, ◌⊎◌, ℕ, Bool, true, false, List, length, Contains}
use Rattle.clfs_lsn.specs.Lsn.{null_lsn}
use Rattle.clfs_model.specs.declared.call.Draft.{Draft}
use Rattle.clfs_model.specs.Space.{own_sum}
use Rattle.clfs_model.specs.declared.refusal.Refusal.{Refusal}
use Rattle.clfs_model.specs.declared.refusal.Refusal.TheVariants as refusals

-- a new area: memory, a broken log, no such stream, a length above the log's longest, an area too many
abbrev pub may_refuse_new : Refusal → Bool
may_refuse_new refusals.NoMemory = true
may_refuse_new refusals.Broken = true
may_refuse_new refusals.NoSuchStream = true
may_refuse_new (refusals.RecordTooLong len max) = true
may_refuse_new (refusals.AreaLimit count) = true
may_refuse_new _ = false

-- a reservation: memory, the disk, a broken log, a single container, no room, a length above the area's largest
abbrev pub may_refuse_reserve : Refusal → Bool
may_refuse_reserve refusals.NoMemory = true
may_refuse_reserve refusals.DiskFault = true
may_refuse_reserve refusals.Broken = true
may_refuse_reserve (refusals.NotEnoughContainers have) = true
may_refuse_reserve (refusals.Full free reserved need) = true
may_refuse_reserve (refusals.RecordTooLong len max) = true
may_refuse_reserve _ = false

-- an append in sectors that a permit has: memory, the disk, a broken log, a length above the area's largest, a link that is none; never for space
abbrev pub may_refuse_append : Refusal → Bool
may_refuse_append refusals.NoMemory = true
may_refuse_append refusals.DiskFault = true
may_refuse_append refusals.Broken = true
may_refuse_append (refusals.RecordTooLong len max) = true
may_refuse_append (refusals.LinkInvalid lsn) = true
may_refuse_append _ = false

-- giving sectors back: memory, a broken log
abbrev pub may_refuse_give_back : Refusal → Bool
may_refuse_give_back refusals.NoMemory = true
may_refuse_give_back refusals.Broken = true
may_refuse_give_back _ = false

-- ---- what a refusal tells

-- A reservation's length is one of its sizes and above the area's largest record, and what it needs are the sectors of all its sizes.
abbrev pub TellsReserve : ℕ → List ℕ → Refusal → Type 0
TellsReserve largest sizes (refusals.RecordTooLong len max) = (max ≡ largest) × ((largest < len) × Contains sizes len)
TellsReserve largest sizes (refusals.Full free reserved need) = need ≡ own_sum sizes
TellsReserve largest sizes (refusals.NotEnoughContainers have) = have < 2
TellsReserve largest sizes _ = Unit {0}

-- An append's length is that of its data and above the area's largest record, and its link is one of the two that it names, and not null.
abbrev pub TellsAppend : ℕ → Draft → Refusal → Type 0
TellsAppend largest draft (refusals.RecordTooLong len max) = (max ≡ largest) × ((largest < len) × (len ≡ length draft.bytes))
TellsAppend largest draft (refusals.LinkInvalid lsn) = (lsn ≢ null_lsn) × ((lsn ≡ draft.previous) ⊎ (lsn ≡ draft.undo_next))
TellsAppend largest draft _ = Unit {0}
