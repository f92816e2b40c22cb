-- A call without room that no other test refuses is refused for space, and one whose area holds too little for that.
use Rattle.clfs_laws.proofs.Words.{◌≡◌, ℕ, Bool, true, false, refl, ap, ◌∙◌, List, [], ◌∷◌, length, Option, Some, None, not, ◌==◌, ◌||◌, if◌then◌else◌}
use Rattle.clfs_laws.proofs.Words.{nat_lt, option_map_or, null_lsn, Draft, Refusal, State, Area, area_of, base_of, last_live, own_sum, free, reserved, grown}
use Rattle.clfs_laws.proofs.Words.{has_room, need_of, spent_of, refused_if, in_area, unless_two_containers, too_long, invalid_link, invalid_base, short, full}
use Rattle.clfs_laws.proofs.Words.{is_link, is_base, append_refusal, restart_refusal, refusal, HasSpaceLaws}
use Rattle.clfs_model.specs.declared.call.Call.TheVariants as calls
use Rattle.clfs_model.specs.declared.refusal.Refusal.TheVariants as refusals
use Rattle.clfs_laws.specs.Needs.{first_too_long}
use Rattle.clfs_laws.proofs.Room.{as_it_is}

-- a test that doesn't refuse leaves it to the others
passes : (test : Bool) (given : Refusal) (others : Option Refusal) → test ≡ false → refused_if test given others ≡ others
passes true given others fails = absurd (cc)
passes false given others fails = refl

passes_not : (test : Bool) (given : Refusal) (others : Option Refusal) → test ≡ true → refused_if (not test) given others ≡ others
passes_not true given others holds = refl
passes_not false given others holds = absurd (cc)

passes_area : (found : Option Area) (area : Area) (rest : Area → Option Refusal) → found ≡ Some area
    → option_map_or rest found (Some refusals.NoSuchArea) ≡ rest area
passes_area found area rest is = ap (λ (f : Option Area). option_map_or rest f (Some refusals.NoSuchArea)) is

passes_long : (area : Area) (lengths : List ℕ) (others : Option Refusal) → first_too_long area lengths ≡ None → too_long area.largest lengths others ≡ others
passes_long area lengths others none =
    ap (λ (f : Option ℕ). option_map_or (λ len. Some (refusals.RecordTooLong len area.largest)) f others) none

refused_full : (s : State) (need : ℕ) (room : Bool) → room ≡ false
    → refused_if (not room) (refusals.Full (free (grown s need)) (reserved (grown s need)) need) None
    ≡ Some (refusals.Full (free (grown s need)) (reserved (grown s need)) need)
refused_full s need true lacks = absurd (cc)
refused_full s need false lacks = refl

full_comes : HasSpaceLaws → (s : State) (need : ℕ) → has_room s need ≡ false → full s need ≡ Some (refusals.Full (free s) (reserved s) need)
full_comes space s need lacks =
    refused_full s need (has_room s need) lacks ∙ ap (λ (z : State). Some (refusals.Full (free z) (reserved z) need)) (as_it_is space s need lacks)

-- after the tests that all three calls begin with
in_the_area : (s : State) (client number : ℕ) (area : Area) (rest : Area → Option Refusal) → nat_lt s.containers 2 ≡ false → area_of s client number ≡ Some area
    → unless_two_containers s (in_area s client number rest) ≡ rest area
in_the_area s client number area rest two there =
    passes (nat_lt s.containers 2) (refusals.NotEnoughContainers s.containers) (in_area s client number rest) two
    ∙ passes_area (area_of s client number) area rest there

pub full_reserve : HasSpaceLaws → (s : State) (client number : ℕ) (area : Area) (sizes : List ℕ)
    → nat_lt s.containers 2 ≡ false → area_of s client number ≡ Some area → first_too_long area sizes ≡ None
    → has_room s (own_sum sizes) ≡ false
    → refusal s client (calls.Reserve number sizes) ≡ Some (refusals.Full (free s) (reserved s) (own_sum sizes))
full_reserve space s client number area sizes two there fits lacks =
    in_the_area s client number area (λ (a : Area). too_long a.largest sizes (full s (own_sum sizes))) two there
    ∙ (passes_long area sizes (full s (own_sum sizes)) fits ∙ full_comes space s (own_sum sizes) lacks)

-- an area that holds enough leaves it to the room, and one that holds too little is refused
enough_held : HasSpaceLaws → (s : State) (area : Area) (taken need : ℕ) → nat_lt area.held taken ≡ false → has_room s need ≡ false
    → short area taken (full s need) ≡ Some (refusals.Full (free s) (reserved s) need)
enough_held space s area taken need enough lacks =
    passes (nat_lt area.held taken) (refusals.ReservationShort area.held taken) (full s need) enough ∙ full_comes space s need lacks

too_little_held : (area : Area) (taken : ℕ) (others : Option Refusal) → nat_lt area.held taken ≡ true
    → short area taken others ≡ Some (refusals.ReservationShort area.held taken)
too_little_held area taken others less = rw less refl

-- an append that passes the tests before what the area holds
to_held_append : (s : State) (client number : ℕ) (area : Area) (draft : Draft) (spends : Bool) (sizes : List ℕ)
    → nat_lt s.containers 2 ≡ false → area_of s client number ≡ Some area → first_too_long area (length draft.bytes ∷ sizes) ≡ None
    → is_link s area.stream draft.previous ≡ true → is_link s area.stream draft.undo_next ≡ true
    → refusal s client (calls.Append number draft spends sizes)
    ≡ short area (spent_of spends (length draft.bytes)) (full s (need_of spends (length draft.bytes) sizes))
to_held_append s client number area draft spends sizes two there fits previous undo_next =
    let n = length draft.bytes in
    let holds = short area (spent_of spends n) (full s (need_of spends n sizes)) in
    let second = invalid_link s area.stream draft.undo_next holds in
    in_the_area s client number area (λ (a : Area). append_refusal s a draft spends sizes) two there
    ∙ (passes_long area (n ∷ sizes) (invalid_link s area.stream draft.previous second) fits
    ∙ (passes_not (is_link s area.stream draft.previous) (refusals.LinkInvalid draft.previous) second previous
    ∙ passes_not (is_link s area.stream draft.undo_next) (refusals.LinkInvalid draft.undo_next) holds undo_next))

pub full_append : HasSpaceLaws → (s : State) (client number : ℕ) (area : Area) (draft : Draft) (spends : Bool) (sizes : List ℕ)
    → nat_lt s.containers 2 ≡ false → area_of s client number ≡ Some area → first_too_long area (length draft.bytes ∷ sizes) ≡ None
    → is_link s area.stream draft.previous ≡ true → is_link s area.stream draft.undo_next ≡ true
    → nat_lt area.held (spent_of spends (length draft.bytes)) ≡ false
    → has_room s (need_of spends (length draft.bytes) sizes) ≡ false
    → refusal s client (calls.Append number draft spends sizes)
    ≡ Some (refusals.Full (free s) (reserved s) (need_of spends (length draft.bytes) sizes))
full_append space s client number area draft spends sizes two there fits previous undo_next enough lacks =
    to_held_append s client number area draft spends sizes two there fits previous undo_next
    ∙ enough_held space s area (spent_of spends (length draft.bytes)) (need_of spends (length draft.bytes) sizes) enough lacks

pub short_append : (s : State) (client number : ℕ) (area : Area) (draft : Draft) (spends : Bool) (sizes : List ℕ)
    → nat_lt s.containers 2 ≡ false → area_of s client number ≡ Some area → first_too_long area (length draft.bytes ∷ sizes) ≡ None
    → is_link s area.stream draft.previous ≡ true → is_link s area.stream draft.undo_next ≡ true
    → nat_lt area.held (spent_of spends (length draft.bytes)) ≡ true
    → refusal s client (calls.Append number draft spends sizes) ≡ Some (refusals.ReservationShort area.held (spent_of spends (length draft.bytes)))
short_append s client number area draft spends sizes two there fits previous undo_next less =
    to_held_append s client number area draft spends sizes two there fits previous undo_next
    ∙ too_little_held area (spent_of spends (length draft.bytes)) (full s (need_of spends (length draft.bytes) sizes)) less

passes_base : (null : Bool) (s : State) (stream base : ℕ) (others : Option Refusal) → (null || is_base s stream base) ≡ true
    → (if null then others else invalid_base s stream base others) ≡ others
passes_base true s stream base others good = refl
passes_base false s stream base others good =
    passes_not (is_base s stream base) (refusals.TailInvalid base (base_of s stream) (last_live s stream)) others good

-- a restart area that passes the tests before what the area holds
to_held_restart : (s : State) (client number : ℕ) (area : Area) (bytes : List ℕ) (base : ℕ) (spends : Bool)
    → nat_lt s.containers 2 ≡ false → area_of s client number ≡ Some area → first_too_long area (length bytes ∷ []) ≡ None
    → ((base == null_lsn) || is_base s area.stream base) ≡ true
    → refusal s client (calls.WriteRestart number bytes base spends)
    ≡ short area (spent_of spends (length bytes)) (full s (need_of spends (length bytes) []))
to_held_restart s client number area bytes base spends two there fits good =
    let n = length bytes in
    let others = short area (spent_of spends n) (full s (need_of spends n [])) in
    in_the_area s client number area (λ (a : Area). restart_refusal s a bytes base spends) two there
    ∙ (passes_long area (n ∷ []) (if base == null_lsn then others else invalid_base s area.stream base others) fits
    ∙ passes_base (base == null_lsn) s area.stream base others good)

pub full_restart : HasSpaceLaws → (s : State) (client number : ℕ) (area : Area) (bytes : List ℕ) (base : ℕ) (spends : Bool)
    → nat_lt s.containers 2 ≡ false → area_of s client number ≡ Some area → first_too_long area (length bytes ∷ []) ≡ None
    → ((base == null_lsn) || is_base s area.stream base) ≡ true
    → nat_lt area.held (spent_of spends (length bytes)) ≡ false
    → has_room s (need_of spends (length bytes) []) ≡ false
    → refusal s client (calls.WriteRestart number bytes base spends) ≡ Some (refusals.Full (free s) (reserved s) (need_of spends (length bytes) []))
full_restart space s client number area bytes base spends two there fits good enough lacks =
    to_held_restart s client number area bytes base spends two there fits good
    ∙ enough_held space s area (spent_of spends (length bytes)) (need_of spends (length bytes) []) enough lacks

pub short_restart : (s : State) (client number : ℕ) (area : Area) (bytes : List ℕ) (base : ℕ) (spends : Bool)
    → nat_lt s.containers 2 ≡ false → area_of s client number ≡ Some area → first_too_long area (length bytes ∷ []) ≡ None
    → ((base == null_lsn) || is_base s area.stream base) ≡ true
    → nat_lt area.held (spent_of spends (length bytes)) ≡ true
    → refusal s client (calls.WriteRestart number bytes base spends) ≡ Some (refusals.ReservationShort area.held (spent_of spends (length bytes)))
short_restart s client number area bytes base spends two there fits good less =
    to_held_restart s client number area bytes base spends two there fits good
    ∙ too_little_held area (spent_of spends (length bytes)) (full s (need_of spends (length bytes) [])) less

pub short_release : (s : State) (client number : ℕ) (area : Area) (sectors : ℕ) → area_of s client number ≡ Some area → nat_lt area.held sectors ≡ true
    → refusal s client (calls.Release number sectors) ≡ Some (refusals.ReservationShort area.held sectors)
short_release s client number area sectors there less =
    passes_area (area_of s client number) area (λ (a : Area). short a sectors None) there ∙ too_little_held area sectors None less
