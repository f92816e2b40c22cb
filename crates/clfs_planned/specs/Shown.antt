-- What a `Planned` shows, and what a call makes of its plan.
use Rattle.std.specs.Prelude.{◌≡◌, List, [], ◌∷◌, ◌++◌, drop}
use Rattle.clfs_disk.specs.State.{DiskState}
use Rattle.clfs_planned.specs.Calls.{calls_of}
use Rattle.clfs_planned.specs.Contents.{contents_of}
use Rattle.clfs_planned.specs.Moments.{planned, noted}
use Rattle.clfs_planned.specs.declared.call.Call.{Call}
use Rattle.clfs_planned.specs.declared.call.History.{History}
use Rattle.clfs_planned.specs.declared.planned.Planned.{Planned}

-- All that the disk shows.
abbrev pub shown : Planned → DiskState
shown disk = planned disk.plan.past.value (contents_of disk.files.items) disk.calls disk.faults

-- The files at first and the calls since.
abbrev pub past_of : Planned → History
past_of disk = disk.plan.past.value

-- The calls that are still to be carried out.
abbrev pub plan_of : Planned → List Call
plan_of disk = calls_of disk.plan.waiting.items

-- A call was planned: it is the last of the history and of those that are still to be carried out.
pub record Plans (call : Call) (old new : Planned) : Type 0 where
  pub past : past_of new ≡ noted call (past_of old)
  pub plan : plan_of new ≡ plan_of old ++ call ∷ []

-- No call was planned, and none was carried out.
pub record KeepsPlan (old new : Planned) : Type 0 where
  pub past : past_of new ≡ past_of old
  pub plan : plan_of new ≡ plan_of old

-- The first of the calls that waited was carried out, if one did.
pub record ForgetsFirst (old new : Planned) : Type 0 where
  pub past : past_of new ≡ past_of old
  pub plan : plan_of new ≡ drop 1 (plan_of old)
