-- When a call is refused for space, and when it can't be.
use Rattle.clfs_laws.proofs.Words.{◌≡◌, ℕ, ◌+◌, ◌≤◌, ◌<◌, Bool, true, false, refl, ap, subst, arith, inl, inr, List, [], ◌∷◌, length, Option, Some, None}
use Rattle.clfs_laws.proofs.Words.{nat_lt, ◌&&◌, find, sum_by, unwrap_or, cases_Bool, ltb-true, le-leb, le-ltb, sum_by-cons, own, Call, Draft, Refusal, State}
use Rattle.clfs_laws.proofs.Words.{Area, area_of, is_area, free, reserved, grown, has_room, refusal, IsValid, HasSpaceLaws, needed_sectors, taken_sectors}
use Rattle.clfs_laws.proofs.Words.{area_number, held_if_there, ◌∙◌, nat_le, growth, hold, grown_if, with_containers, growth_rate, size_limit}
use Rattle.clfs_model.specs.declared.call.Call.TheVariants as calls
use Rattle.clfs_model.specs.declared.refusal.Refusal.TheVariants as refusals
use Rattle.clfs_laws.proofs.CallRefusals.{Told, HasRoom, terms_of, refusal_told}

-- what it tells that a call is refused so, or isn't
told_at : (s : State) (client : ℕ) (call : Call) (given : Option Refusal) → refusal s client call ≡ given → Told (terms_of s client call) given
told_at s client call given is = let F : Option Refusal → Type 0 = Told (terms_of s client call) in subst F is (refusal_told s client call)

pub full_told : (s : State) (client : ℕ) (call : Call) (of_free of_reserved need : ℕ) → refusal s client call ≡ Some (refusals.Full of_free of_reserved need)
    → (needed_sectors call ≡ Some need) × ((has_room s need ≡ false) × ((of_free ≡ free (grown s need)) × (of_reserved ≡ reserved (grown s need))))
full_told s client call of_free of_reserved need is = told_at s client call (Some (refusals.Full of_free of_reserved need)) is

pub room_told : (s : State) (client : ℕ) (call : Call) (need : ℕ) → refusal s client call ≡ None → needed_sectors call ≡ Some need → has_room s need ≡ true
room_told s client call need is needs = let F : Option ℕ → Type 0 = HasRoom s in subst F needs (told_at s client call None is)

pub short_told : (s : State) (client : ℕ) (call : Call) (held need : ℕ) → refusal s client call ≡ Some (refusals.ReservationShort held need)
    → (held ≡ held_if_there (area_of s client (area_number call))) × ((need ≡ taken_sectors call) × (held < need))
short_told s client call held need is =
    let tells = told_at s client call (Some (refusals.ReservationShort held need)) is in
    let less : held_if_there (area_of s client (area_number call)) < taken_sectors call = ltb-true _ _ tells.1.1 in
    (tells.0, (tells.1.0, omega (arith, less, tells.0, tells.1.0)))

-- a test fails where its second part does
second_fails : (a b : Bool) → b ≡ false → (a && b) ≡ false
second_fails true b fails = fails
second_fails false b fails = refl

-- a log whose reserved sectors are free doesn't grow for nothing
pub not_grown : (s : State) → reserved s ≤ free s → grown s 0 ≡ s
unfolding grown
not_grown s fits =
    let enough : nat_lt (free s) (reserved s + 0) ≡ false = le-ltb (free s) (reserved s + 0) (omega (arith, fits)) in
    rw (second_fails s.automatic (nat_lt (free s) (reserved s + 0)) enough) refl

-- growth that gives a number of containers gives enough
grown_by : HasSpaceLaws → (s : State) (wanted : ℕ) (found : Option ℕ) → growth s.shape s.place (hold s) s.containers (growth_rate s) (size_limit s) wanted ≡ found
    → nat_le wanted (free (with_containers (unwrap_or found s.containers) s)) ≡ false → with_containers (unwrap_or found s.containers) s ≡ s
grown_by space s wanted None is lacks = refl
grown_by space s wanted (Some n) is lacks =
    let step = space.growth s.shape s.place (hold s) s.containers (growth_rate s) (size_limit s) wanted n is in
    let enough : nat_le wanted (free (with_containers n s)) ≡ true = le-leb wanted (free (with_containers n s)) step.enough in
    absurd (cc (enough, lacks))

grown_if_by : HasSpaceLaws → (s : State) (test : Bool) (wanted : ℕ) → nat_le wanted (free (grown_if test s wanted)) ≡ false → grown_if test s wanted ≡ s
grown_if_by space s true wanted lacks = grown_by space s wanted (growth s.shape s.place (hold s) s.containers (growth_rate s) (size_limit s) wanted) refl lacks
grown_if_by space s false wanted lacks = refl

-- a log without room for a call hasn't grown for it
pub as_it_is : HasSpaceLaws → (s : State) (need : ℕ) → has_room s need ≡ false → grown s need ≡ s
unfolding grown has_room
as_it_is space s need lacks = grown_if_by space s _ (reserved s + need) lacks

pub full_as_it_is : HasSpaceLaws → (s : State) (client : ℕ) (call : Call) (of_free of_reserved need : ℕ) → refusal s client call ≡ Some (refusals.Full of_free of_reserved need)
    → (of_free ≡ free s) × (of_reserved ≡ reserved s)
full_as_it_is space s client call of_free of_reserved need is =
    let tells = full_told s client call of_free of_reserved need is in
    let same = as_it_is space s need tells.1.0 in
    (tells.1.1.0 ∙ ap free same, tells.1.1.1 ∙ ap reserved same)

-- it has room for nothing
room_for_nothing : (s : State) → reserved s ≤ free s → has_room s 0 ≡ true
unfolding has_room
room_for_nothing s fits = rw (not_grown s fits) (le-leb (reserved s + 0) (free s) (omega (arith, fits)))

pub never_full : (s : State) (client number : ℕ) (area : Area) (draft : Draft) (of_free of_reserved need : ℕ)
    → IsValid s → area_of s client number ≡ Some area → own (length draft.bytes) ≤ area.held
    → refusal s client (calls.Append number draft true []) ≡ Some (refusals.Full of_free of_reserved need) → ⊥
never_full s client number area draft of_free of_reserved need valid there held is =
    let tells = full_told s client (calls.Append number draft true []) of_free of_reserved need is in
    let none : need ≡ 0 = cc (tells.0) in
    let room : has_room s 0 ≡ true = room_for_nothing s valid.space.room in
    let lacks : has_room s 0 ≡ false = rw none at tells.1.0 in
    cc (room, lacks)

pub never_short : (s : State) (client number : ℕ) (area : Area) (draft : Draft) (of_held need : ℕ)
    → IsValid s → area_of s client number ≡ Some area → own (length draft.bytes) ≤ area.held
    → refusal s client (calls.Append number draft true []) ≡ Some (refusals.ReservationShort of_held need) → ⊥
never_short s client number area draft of_held need valid there held is =
    let tells = short_told s client (calls.Append number draft true []) of_held need is in
    let has : held_if_there (area_of s client number) ≡ area.held = ap held_if_there there in
    omega (arith, tells.0, tells.1.0, tells.1.1, has, held)

-- what one area holds is part of what all hold
held_below : (p : Area → Bool) (areas : List Area) (area : Area) → find p areas ≡ Some area → area.held ≤ sum_by (λ (a : Area). a.held) areas
held_below p [] area is = absurd (cc)
held_below p (first ∷ areas) area is = let total = sum_by-cons (λ (a : Area). a.held) first areas in elim (cases_Bool (p first)) [
  | inl here ↦ let found = rw here at is in let same : first ≡ area = cc in omega (arith, ap (λ (a : Area). a.held) same, total)
  | inr there ↦ let found = rw there at is in omega (arith, held_below p areas area found, total)
]

-- a record takes at least one sector
own_some : (n : ℕ) → 1 ≤ own n
own_some n = omega arith

pub never_few : (s : State) (client number : ℕ) (area : Area) (draft : Draft) (have : ℕ)
    → IsValid s → area_of s client number ≡ Some area → own (length draft.bytes) ≤ area.held
    → refusal s client (calls.Append number draft true []) ≡ Some (refusals.NotEnoughContainers have) → ⊥
never_few s client number area draft have valid there held is =
    let tells = told_at s client (calls.Append number draft true []) (Some (refusals.NotEnoughContainers have)) is in
    let few : s.containers < 2 = ltb-true s.containers 2 tells.1 in
    let some : 0 < reserved s = omega (arith, held_below (is_area client number) s.areas area there, own_some (length draft.bytes), held) in
    omega (arith, few, valid.space.two some)
