-- What a call that is to be carried out is to clauses.
use Rattle.std.specs.Prelude.{List, map}
use Rattle.clfs_planned.specs.declared.call.Call.{Call}
use Rattle.clfs_planned.specs.declared.call.Call.TheVariants as calls
use Rattle.clfs_planned.specs.declared.call.PlannedCall.{PlannedCall}
use Rattle.clfs_planned.specs.declared.call.PlannedCall.TheVariants as planned

-- the call with its bytes as a list
abbrev pub call_of : PlannedCall → Call
call_of (planned.Write file at bytes) = calls.Write file at bytes.items
call_of (planned.Grow file len) = calls.Grow file len
call_of planned.Sync = calls.Sync

abbrev pub calls_of : List PlannedCall → List Call
calls_of = map call_of
