-- What a step's reply tells of room, and that a reserved append that is covered isn't refused for it.
use Rattle.clfs_laws.proofs.Words.{◌≡◌, ℕ, ◌≤◌, ◌<◌, Bool, true, false, refl, inl, inr, [], length, Some, cases_Bool, own, Call, Draft, Refusal, Happened}
use Rattle.clfs_laws.proofs.Words.{State, Area, area_of, free, reserved, has_room, refusal, Step, IsValid, HasSpaceLaws, needed_sectors, taken_sectors}
use Rattle.clfs_laws.proofs.Words.{area_number, held_if_there, is_of_call}
use Rattle.clfs_model.specs.declared.call.Call.TheVariants as calls
use Rattle.clfs_model.specs.declared.refusal.Refusal.TheVariants as refusals
use Rattle.clfs_model.specs.declared.reply.Reply.TheVariants as replies
use Rattle.clfs_laws.specs.Needs.{is_for_room}
use Rattle.clfs_laws.proofs.Replies.{first_refusal}
use Rattle.clfs_laws.proofs.Room.{full_told, full_as_it_is, short_told, never_full, never_short, never_few}

-- a step that is refused for space had no room
pub full_step : HasSpaceLaws → (told : Bool) (s : State) (client : ℕ) (call : Call) (happened : Happened) (of_free of_reserved need : ℕ) (t : State)
    → Step told s client call happened (replies.Refused (refusals.Full of_free of_reserved need)) t
    → (needed_sectors call ≡ Some need) × ((has_room s need ≡ false) × ((of_free ≡ free s) × (of_reserved ≡ reserved s)))
full_step space told s client call happened of_free of_reserved need t step =
    let is = first_refusal told s client call happened (refusals.Full of_free of_reserved need) t refl step in
    let tells = full_told s client call of_free of_reserved need is in
    let numbers = full_as_it_is space s client call of_free of_reserved need is in
    (tells.0, (tells.1.0, numbers))

-- one that is refused for what its area holds took more
pub short_step : (told : Bool) (s : State) (client : ℕ) (call : Call) (happened : Happened) (held need : ℕ) (t : State)
    → Step told s client call happened (replies.Refused (refusals.ReservationShort held need)) t
    → (held ≡ held_if_there (area_of s client (area_number call))) × ((need ≡ taken_sectors call) × (held < need))
short_step told s client call happened held need t step =
    short_told s client call held need (first_refusal told s client call happened (refusals.ReservationShort held need) t refl step)

-- a reserved append whose sectors its area holds
covered : (s : State) (client number : ℕ) (area : Area) (draft : Draft) (given : Refusal) → IsValid s → area_of s client number ≡ Some area
    → own (length draft.bytes) ≤ area.held → refusal s client (calls.Append number draft true []) ≡ Some given → is_for_room given ≡ false
covered s client number area draft (refusals.Full of_free of_reserved need) valid there held is =
    absurd (never_full s client number area draft of_free of_reserved need valid there held is)
covered s client number area draft (refusals.ReservationShort of_held need) valid there held is =
    absurd (never_short s client number area draft of_held need valid there held is)
covered s client number area draft (refusals.NotEnoughContainers have) valid there held is =
    absurd (never_few s client number area draft have valid there held is)
covered s client number area draft _ valid there held is = refl

-- the refusals that stand in no call's list aren't for room
other : (given : Refusal) → is_of_call given ≡ false → is_for_room given ≡ false
other (refusals.Full of_free of_reserved need) is = absurd (cc)
other (refusals.ReservationShort of_held need) is = absurd (cc)
other (refusals.NotEnoughContainers have) is = absurd (cc)
other _ is = refl

pub covered_step : (told : Bool) (s : State) (client number : ℕ) (area : Area) (draft : Draft) (happened : Happened) (given : Refusal) (t : State)
    → IsValid s → area_of s client number ≡ Some area → own (length draft.bytes) ≤ area.held
    → Step told s client (calls.Append number draft true []) happened (replies.Refused given) t → is_for_room given ≡ false
covered_step told s client number area draft happened given t valid there held step = elim (cases_Bool (is_of_call given)) [
  | inl own_list ↦
      covered s client number area draft given valid there held (first_refusal told s client (calls.Append number draft true []) happened given t own_list step)
  | inr not_own ↦ other given not_own
]
