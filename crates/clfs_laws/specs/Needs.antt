-- What a call needs of the log's space and takes of its area's.
use Rattle.std.specs.Prelude.{ℕ, Bool, true, false, List, [], length, nat_lt, find, Option, Some, None}
use Rattle.std.specs.Option.{option_map_or}
use Rattle.clfs_model.specs.declared.call.Call.{Call}
use Rattle.clfs_model.specs.declared.call.Call.TheVariants as calls
use Rattle.clfs_model.specs.declared.refusal.Refusal.{Refusal}
use Rattle.clfs_model.specs.declared.refusal.Refusal.TheVariants as refusals
use Rattle.clfs_model.specs.declared.state.Area.{Area}
use Rattle.clfs_model.specs.Space.{own_sum}
use Rattle.clfs_model.specs.Put.{need_of, spent_of}

-- the sectors for which a call needs room
abbrev pub needed_sectors : Call → Option ℕ
needed_sectors (calls.Reserve number sizes) = Some (own_sum sizes)
needed_sectors (calls.Append number draft reserved sizes) = Some (need_of reserved (length draft.bytes) sizes)
needed_sectors (calls.WriteRestart number bytes base reserved) = Some (need_of reserved (length bytes) [])
needed_sectors call = None

-- the sectors that a call takes from its area
abbrev pub taken_sectors : Call → ℕ
taken_sectors (calls.Release number sectors) = sectors
taken_sectors (calls.Append number draft reserved sizes) = spent_of reserved (length draft.bytes)
taken_sectors (calls.WriteRestart number bytes base reserved) = spent_of reserved (length bytes)
taken_sectors call = 0

-- the sectors that an area holds, or 0 where there is none
abbrev pub held_if_there : Option Area → ℕ
held_if_there found = option_map_or (λ (area : Area). area.held) found 0

-- the first of these lengths that is above the largest record of an area
abbrev pub first_too_long : Area → List ℕ → Option ℕ
first_too_long area lengths = find (λ len. nat_lt area.largest len) lengths

-- the number of a call's area; 0 where it names none
abbrev pub area_number : Call → ℕ
area_number (calls.DeleteArea number) = number
area_number (calls.Reserve number sizes) = number
area_number (calls.Release number sectors) = number
area_number (calls.Align number sizes) = number
area_number (calls.Append number draft reserved sizes) = number
area_number (calls.Flush number) = number
area_number (calls.FlushTo number lsn) = number
area_number (calls.Read number lsn mode) = number
area_number (calls.ReadNext number cursor) = number
area_number (calls.EndRead number cursor) = number
area_number (calls.WriteRestart number bytes base reserved) = number
area_number (calls.ReadRestart number) = number
area_number (calls.PreviousRestart number cursor) = number
area_number (calls.Advance number lsn) = number
area_number call = 0

-- a refusal for want of sectors, of held sectors or of containers
abbrev pub is_for_room : Refusal → Bool
is_for_room (refusals.Full free reserved need) = true
is_for_room (refusals.ReservationShort held need) = true
is_for_room (refusals.NotEnoughContainers have) = true
is_for_room _ = false
