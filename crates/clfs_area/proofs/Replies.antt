-- Which refusals of a call's own kinds are left to a shared area.
use Rattle.std.proofs.Common.{◌≡◌, ◌≢◌, ℕ, Bool, true, false, refl, List}
use Rattle.clfs_model.specs.declared.call.Call.TheVariants as calls
use Rattle.clfs_model.specs.declared.call.Draft.{Draft}
use Rattle.clfs_model.specs.declared.refusal.Refusal.{Refusal}
use Rattle.clfs_model.specs.declared.refusal.Refusal.TheVariants as refusals
use Rattle.clfs_model.specs.declared.reply.Reply.TheVariants as replies
use Rattle.clfs_laws.specs.Needs.{is_for_room}
use Rattle.clfs_laws.specs.ReplyKinds.{is_reply_of}
use Rattle.clfs_area.specs.Calls.{held_append}
use Rattle.clfs_area.specs.Causes.{may_refuse_reserve, may_refuse_append, may_refuse_give_back}

-- either memory ran out, or not
pub by_memory : (b : Bool) (P : Type 0) → (b ≡ true → P) → (b ≡ false → P) → P
by_memory true P out other = out refl
by_memory false P out other = other refl

-- an append that is refused neither for room nor because its area is missing
pub append_causes : (number : ℕ) (draft : Draft) (given : Refusal) → is_reply_of (held_append number draft) (replies.Refused given) ≡ true
    → is_for_room given ≡ false → given ≢ refusals.NoSuchArea → may_refuse_append given ≡ true
append_causes number draft refusals.NoMemory kind room missing = refl
append_causes number draft refusals.DiskFault kind room missing = refl
append_causes number draft refusals.Broken kind room missing = refl
append_causes number draft (refusals.RecordTooLong len max) kind room missing = refl
append_causes number draft (refusals.LinkInvalid lsn) kind room missing = refl
append_causes number draft (refusals.NotEnoughContainers have) kind room missing = absurd (cc room)
append_causes number draft (refusals.ReservationShort held need) kind room missing = absurd (cc room)
append_causes number draft (refusals.Full free reserved need) kind room missing = absurd (cc room)
append_causes number draft refusals.NoSuchArea kind room missing = absurd (missing refl)
append_causes number draft _ kind room missing = absurd (cc kind)

-- a reservation that isn't refused because its area is missing
pub reserve_causes : (number : ℕ) (sizes : List ℕ) (given : Refusal) → is_reply_of (calls.Reserve number sizes) (replies.Refused given) ≡ true
    → given ≢ refusals.NoSuchArea → may_refuse_reserve given ≡ true
reserve_causes number sizes refusals.NoMemory kind missing = refl
reserve_causes number sizes refusals.DiskFault kind missing = refl
reserve_causes number sizes refusals.Broken kind missing = refl
reserve_causes number sizes (refusals.NotEnoughContainers have) kind missing = refl
reserve_causes number sizes (refusals.Full free reserved need) kind missing = refl
reserve_causes number sizes (refusals.RecordTooLong len max) kind missing = refl
reserve_causes number sizes refusals.NoSuchArea kind missing = absurd (missing refl)
reserve_causes number sizes _ kind missing = absurd (cc kind)

-- a release that is refused neither because its area is missing nor for what the area holds
pub release_causes : (number sectors : ℕ) (given : Refusal) → is_reply_of (calls.Release number sectors) (replies.Refused given) ≡ true
    → given ≢ refusals.NoSuchArea → ((held need : ℕ) → given ≢ refusals.ReservationShort held need) → may_refuse_give_back given ≡ true
release_causes number sectors refusals.NoMemory kind missing short = refl
release_causes number sectors refusals.Broken kind missing short = refl
release_causes number sectors (refusals.ReservationShort held need) kind missing short = absurd (short held need refl)
release_causes number sectors refusals.NoSuchArea kind missing short = absurd (missing refl)
release_causes number sectors _ kind missing short = absurd (cc kind)
