-- A log that has grown for a call and whose area has spent is whole, and has room for the call's record and for those to come.
use Rattle.clfs_laws.proofs.Words.{◌≡◌, ℕ, ◌+◌, ◌<◌, ◌≤◌, Bool, true, false, refl, sym, ap, ◌∙◌, subst, inl, inr, ◌⊎◌, arith, List, [], length, Option, Some}
use Rattle.clfs_laws.proofs.Words.{None, IsSome, find, not, ◌==◌, cases_Bool, eqb-true, null_lsn, frontier, BaseFits, LogEntry, Plain, Draft, State, Area}
use Rattle.clfs_laws.proofs.Words.{is_area, area_of, hold, free, reserved, own_sum, with_containers, grown, has_room, next_lsn, put, need_of, spend_if}
use Rattle.clfs_laws.proofs.Words.{plain_record, hold_sizes, is_base, append_refusal, restart_refusal, too_long, full, restart_record, IsStorable, IsValid}
use Rattle.clfs_laws.proofs.Words.{HasSpaceLaws, IsWhole, MayMove, TakesThrough}
use Rattle.clfs_model.specs.declared.refusal.Refusal.TheVariants as refusals
use Rattle.clfs_laws.proofs.LaidPuts.{whole_put, room_put}
use Rattle.clfs_laws.proofs.Links.{next_above}
use Rattle.clfs_laws.proofs.NotRefused.{passed, passed_long}
use Rattle.clfs_laws.proofs.RowChanges.{area_named}
use Rattle.clfs_laws.proofs.RowSteps.{put_areas}
use Rattle.clfs_laws.proofs.StorableBases.{bases_as, same_bases}
use Rattle.clfs_laws.proofs.StorableBlocks.{blocks_spent}
use Rattle.clfs_laws.proofs.StorableLimits.{limits_spent}
use Rattle.clfs_laws.proofs.StorableSteps.{storable_same, hold_keeps}
use Rattle.clfs_laws.proofs.ValidAppends as of_appends
use Rattle.clfs_laws.proofs.ValidAppends.{MayJoin, spent, hold_named, put_containers, true_of_not}
use Rattle.clfs_laws.proofs.ValidAreaCalls.{valid_sizes, room_is}
use Rattle.clfs_laws.proofs.ValidBases.{base_between}
use Rattle.clfs_laws.proofs.ValidPlaces.{IsSound, sound_of}
use Rattle.clfs_laws.proofs.ValidRestarts as of_restarts
use Rattle.clfs_laws.proofs.ValidSettings.{valid_grown, grown_is, grown_no_fewer}

-- a log that has grown
pub whole_grown : HasSpaceLaws → (s : State) (need : ℕ) → IsValid s → IsStorable s → IsWhole (grown s need)
whole_grown space s need valid storable = record {
  valid = valid_grown space s need valid;
  storable = subst IsStorable (sym (grown_is s need)) (storable_same s (with_containers (grown s need).containers s) refl refl refl refl refl storable);
}

pub hold_grown : (s : State) (need : ℕ) → hold (grown s need) ≡ hold s
hold_grown s need = ap hold (grown_is s need)

-- a log whose area has spent
storable_spent : (is_reserved : Bool) (area : Area) (n : ℕ) (s : State) → IsStorable s → IsStorable (spend_if is_reserved area n s)
storable_spent false area n s storable = storable
storable_spent true area n s storable = let t : State = spend_if true area n s in record {
  bases = bases_as s t refl (same_bases s t refl) storable.bases;
  blocks = blocks_spent true area n s storable.blocks;
  limits = limits_spent true area n s storable.limits;
}

spent_next : (is_reserved : Bool) (area : Area) (n : ℕ) (s : State) (m : ℕ) → next_lsn (spend_if is_reserved area n s) m ≡ next_lsn s m
spent_next false area n s m = refl
spent_next true area n s m = refl

-- growing and spending leave the next LSN
pub next_spent : (s : State) (area : Area) (is_reserved : Bool) (n need : ℕ) → next_lsn (spend_if is_reserved area n (grown s need)) n ≡ next_lsn s n
next_spent s area is_reserved n need = spent_next is_reserved area n (grown s need) n ∙ ap (λ (x : State). next_lsn x n) (grown_is s need)

spent_containers : (is_reserved : Bool) (area : Area) (n : ℕ) (s : State) → (spend_if is_reserved area n s).containers ≡ s.containers
spent_containers false area n s = refl
spent_containers true area n s = refl

spent_base : (is_reserved : Bool) (area : Area) (n : ℕ) (s : State) (stream base : ℕ) → is_base s stream base ≡ true
    → is_base (spend_if is_reserved area n s) stream base ≡ true
spent_base false area n s stream base is = is
spent_base true area n s stream base is = is

-- a link that is null or below an LSN of a record is below it
below_of : (link lsn : ℕ) → 0 < lsn → (link ≡ null_lsn) ⊎ (link < lsn) → link < lsn
below_of link lsn some (inl none) = omega (arith, some, none)
below_of link lsn some (inr below) = below

-- the next LSN isn't null
next_some : (s : State) (n : ℕ) → IsSound s → 0 < next_lsn s n
next_some s n sound = let above = next_above s n sound in omega (arith, above, sound.ranges.place.container)

-- a record that a call may append through an area
takes_through : (s : State) (client number : ℕ) (area : Area) (entry : LogEntry) (is_reserved : Bool) (more : ℕ) → IsValid s → IsStorable s → 2 ≤ s.containers
    → MayJoin s client number area entry is_reserved more → BaseFits entry.kind (next_lsn s (length entry.bytes)) entry.new_base
    → TakesThrough (spend_if is_reserved area (length entry.bytes) s) area entry more
takes_through s client number area entry is_reserved more valid storable two may fits =
    let n = length entry.bytes in
    let v : State = spend_if is_reserved area n s in
    let some = spent s client number area entry is_reserved more valid may in
    let has = some.1.0 in
    let name = area_named client number s.areas area may.there in
    let at : next_lsn v n ≡ next_lsn s n = spent_next is_reserved area n s n in
    let above = next_some v n (sound_of v has.valid) in
    let Fits : ℕ → Type 0 = λ lsn. BaseFits entry.kind lsn entry.new_base in
    let Of : ℕ → ℕ → Type 0 = λ c k. IsSome (area_of v c k) in
    let OfNumber : ℕ → Type 0 = λ k. Of client k in
    let OfClient : ℕ → Type 0 = λ c. Of c area.number in
    let there : Of client number = subst IsSome (sym has.area_there) refl in
    record {
      valid = has.valid;
      storable = storable_spent is_reserved area n s storable;
      may = record {
        short = has.short;
        room = omega (arith, has.room);
        stream = has.joining.stream;
        previous = below_of entry.previous (next_lsn v n) above has.joining.previous;
        undo_next = below_of entry.undo_next (next_lsn v n) above has.joining.undo_next;
        new_base = subst Fits (sym at) fits;
      };
      there = subst OfClient (sym name.0) (subst OfNumber (sym name.1) there);
      two = omega (arith, two, spent_containers is_reserved area n s);
      room = has.room;
    }

-- an append that isn't refused
pub append_takes : HasSpaceLaws → (s : State) (client number : ℕ) (area : Area) (draft : Draft) (is_reserved : Bool) (sizes : List ℕ) → IsValid s
    → IsStorable s → 2 ≤ s.containers → area_of s client number ≡ Some area → append_refusal s area draft is_reserved sizes ≡ None
    → TakesThrough (spend_if is_reserved area (length draft.bytes) (grown s (need_of is_reserved (length draft.bytes) sizes))) area
    (plain_record area draft) (own_sum sizes)
append_takes space s client number area draft is_reserved sizes valid storable two there none =
    let need = need_of is_reserved (length draft.bytes) sizes in
    let u : State = grown s need in
    let whole = whole_grown space s need valid storable in
    let may = of_appends.may_append s client number area draft is_reserved sizes u refl (grown_is s need) valid whole.valid there
    (of_appends.allowed s area draft is_reserved sizes none) in
    takes_through u client number area (plain_record area draft) is_reserved (own_sum sizes) whole.valid whole.storable
    (omega (arith, two, grown_no_fewer space s need)) may refl

-- a restart area that isn't refused
pub restart_takes : HasSpaceLaws → (s : State) (client number : ℕ) (area : Area) (bytes : List ℕ) (base : ℕ) (is_reserved : Bool) → IsValid s
    → IsStorable s → 2 ≤ s.containers → area_of s client number ≡ Some area → restart_refusal s area bytes base is_reserved ≡ None
    → TakesThrough (spend_if is_reserved area (length bytes) (grown s (need_of is_reserved (length bytes) []))) area (restart_record s area bytes base) 0
restart_takes space s client number area bytes base is_reserved valid storable two there none =
    let n = length bytes in
    let need = need_of is_reserved n [] in
    let u : State = grown s need in
    let whole = whole_grown space s need valid storable in
    let allows = of_restarts.allowed s area bytes base is_reserved none in
    let may = of_restarts.may_restart s client number area bytes base is_reserved u refl (grown_is s need) valid whole.valid there allows in
    let same : frontier u.place ≡ frontier s.place = ap (λ (x : State). frontier x.place) (grown_is s need) in
    let above = next_above u n (sound_of u whole.valid) in
    let fits : base ≤ next_lsn u n = elim (cases_Bool (base == null_lsn)) [
      | inl null ↦ let nothing = eqb-true base null_lsn null in omega (arith, nothing)
      | inr some ↦ let between = base_between s area.stream base (sound_of s valid) (allows.based some) in omega (arith, between.below, above, same)
    ] in
    takes_through u client number area (restart_record s area bytes base) is_reserved 0 whole.valid whole.storable
    (omega (arith, two, grown_no_fewer space s need)) may fits

-- whose base may move
pub restart_moves : (s : State) (area : Area) (bytes : List ℕ) (base : ℕ) (is_reserved : Bool) → restart_refusal s area bytes base is_reserved ≡ None
    → MayMove (spend_if is_reserved area (length bytes) (grown s (need_of is_reserved (length bytes) []))) area.stream base
restart_moves s area bytes base is_reserved none some =
    let n = length bytes in
    let need = need_of is_reserved n [] in
    let Based : State → Type 0 = λ x. is_base x area.stream base ≡ true in
    spent_base is_reserved area n (grown s need) area.stream base
    (subst Based (sym (grown_is s need)) ((of_restarts.allowed s area bytes base is_reserved none).based some))

-- what is needed is free in a log that has grown
pub room_after : (s : State) (need : ℕ) → has_room s need ≡ true → reserved (grown s need) + need ≤ free (grown s need)
room_after s need room =
    let enough = room_is s need room in
    let sum : reserved (grown s need) ≡ reserved s = ap reserved (grown_is s need) in
    omega (arith, enough, sum)

-- a reservation that isn't refused
pub reserve_room : (s : State) (area : Area) (sizes : List ℕ) → too_long area.largest sizes (full s (own_sum sizes)) ≡ None
    → reserved (grown s (own_sum sizes)) + own_sum sizes ≤ free (grown s (own_sum sizes))
reserve_room s area sizes none =
    let need = own_sum sizes in
    let last = passed (not (has_room s need)) (refusals.Full (free (grown s need)) (reserved (grown s need)) need) None
    (passed_long area.largest sizes (full s need) none) in
    room_after s need (true_of_not _ last.0)

-- an area that is there holds the sectors for records to come
pub whole_hold : (s : State) (area : Area) (sizes : List ℕ) → IsValid s → IsStorable s → IsSome (area_of s area.client area.number) → 2 ≤ s.containers
    → reserved s + own_sum sizes ≤ free s → IsWhole (hold_sizes area sizes s)
whole_hold s area sizes valid storable there two room = record {
  valid = by_found (area_of s area.client area.number) refl there;
  storable = hold_keeps area sizes s storable;
}
  where
    by_found : (found : Option Area) → area_of s area.client area.number ≡ found → IsSome found → IsValid (hold_sizes area sizes s)
    by_found None is none = absurd (cc)
    by_found (Some other) is some =
        let name = area_named area.client area.number s.areas other is in
        subst IsValid (hold_named other area sizes s name.0 name.1) (valid_sizes s area.client area.number sizes other is room two valid)

-- so it does after a record that was put through it
pub whole_behind : HasSpaceLaws → (s : State) (area : Area) (entry : LogEntry) (sizes : List ℕ) → TakesThrough s area entry (own_sum sizes) → entry.kind ≡ Plain
    → IsWhole (hold_sizes area sizes (put s entry))
whole_behind space s area entry sizes takes plain =
    let t : State = put s entry in
    let whole = whole_put space s entry takes.valid takes.storable takes.may plain in
    let There : List Area → Type 0 = λ areas. IsSome (find (is_area area.client area.number) areas) in
    whole_hold t area sizes whole.valid whole.storable (subst There (sym (put_areas s entry)) takes.there) (omega (arith, takes.two, put_containers s entry))
    (room_put space s entry (own_sum sizes) (sound_of s takes.valid) takes.may takes.room)
