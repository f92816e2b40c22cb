-- An append and a restart area leave a valid state.
use Rattle.clfs_laws.proofs.Words.{◌≡◌, ℕ, ◌+◌, ◌<◌, ◌≤◌, Bool, true, false, refl, sym, ap, ◌∙◌, subst, inl, inr, ◌⊎◌, arith, List, [], ◌∷◌, length, Some}
use Rattle.clfs_laws.proofs.Words.{None, IsSome, find, nat_lt, not, option_map, cases_Bool, ltb-false, All-push, null_lsn, own, longest, frontier, joins}
use Rattle.clfs_laws.proofs.Words.{begins_here, LogEntry, Plain, Restart, Draft, State, Area, stream_at, is_area, area_of, change_first, change_area, free}
use Rattle.clfs_laws.proofs.Words.{reserved, own_sum, with_containers, grown, has_room, flushed, seal, flush, next_lsn, put, need_of, spent_of}
use Rattle.clfs_laws.proofs.Words.{with_less_held, with_more_held, spend_if, hold_sizes, seal_if, flush_if, plain_record, appended, is_link, invalid_link}
use Rattle.clfs_laws.proofs.Words.{short, full, append_refusal, IsValid, HasSpaceLaws}
use Rattle.clfs_model.specs.declared.refusal.Refusal.TheVariants as refusals
use Rattle.clfs_model.specs.Put.{own_unless}
use Rattle.clfs_laws.proofs.Finding.{find_changed}
use Rattle.clfs_laws.proofs.NotRefused.{passed, passed_long}
use Rattle.clfs_laws.proofs.RowSteps.{put_areas}
use Rattle.clfs_laws.proofs.RowChanges.{area_named}
use Rattle.clfs_laws.proofs.ValidAreas.{held_sum, sum_changed}
use Rattle.clfs_laws.proofs.ValidSettings.{valid_grown, grown_is, grown_no_fewer}
use Rattle.clfs_laws.proofs.ValidAreaCalls.{valid_released, valid_sizes, room_is, none_of_option, its_area}
use Rattle.clfs_laws.proofs.ValidPlaces.{sound_of, valid_of, restarts_still, valid_seal, valid_flush}
use Rattle.clfs_laws.proofs.SoundJoins.{IsJoining}
use Rattle.clfs_laws.proofs.ValidPuts.{TakesRecord, placed, put_by, sound_put}
use Rattle.clfs_laws.proofs.Links.{link_below, next_above}

-- a record that is no restart area is put into a valid log
pub valid_put : HasSpaceLaws → (s : State) (entry : LogEntry) → IsValid s → TakesRecord s (length entry.bytes) → IsJoining s (placed entry (next_lsn s (length entry.bytes)))
    → entry.kind ≡ Plain → IsValid (put s entry)
valid_put space s entry valid takes joining plain =
    let t = put s entry in
    let is = sound_put space s entry (sound_of s valid) takes joining in
    valid_of t is.sound (All-push (λ (e : LogEntry). e.kind ≡ Restart → e.lsn < flushed t) s.records (placed entry (next_lsn s (length entry.bytes)))
    (restarts_still s t is.more valid.stable.restarts) (λ restart. absurd (cc (plain, restart))))

-- sealing, flushing and putting don't look at areas
pub seal_with_areas : (s : State) (areas : List Area) → seal (record s { areas = areas }) ≡ record (seal s) { areas = areas }
seal_with_areas s areas = elim (cases_Bool (nat_lt 0 s.place.records)) [ inl some ↦ rw some refl | inr none ↦ rw none refl ]

pub flush_with_areas : (s : State) (areas : List Area) → flush (record s { areas = areas }) ≡ record (flush s) { areas = areas }
flush_with_areas s areas = ap (λ (t : State). record t { waiting = [] }) (seal_with_areas s areas)

put_by_with_areas : (joining beginning : Bool) (s : State) (areas : List Area) (entry : LogEntry) → put_by joining beginning (record s { areas = areas }) entry ≡ record (put_by joining beginning s entry) { areas = areas }
put_by_with_areas true beginning s areas entry = refl
put_by_with_areas false true s areas entry =
    ap (λ (t : State). record t { records = (put_by false true s entry).records; place = (put_by false true s entry).place }) (seal_with_areas s areas)
put_by_with_areas false false s areas entry =
    ap (λ (t : State). record t { records = (put_by false false s entry).records; place = (put_by false false s entry).place }) (flush_with_areas s areas)

pub put_with_areas : (s : State) (areas : List Area) (entry : LogEntry) → put (record s { areas = areas }) entry ≡ record (put s entry) { areas = areas }
put_with_areas s areas entry =
    put_by_with_areas (joins s.shape s.place (length entry.bytes)) (begins_here s.shape s.place (length entry.bytes)) s areas entry

-- a record that spends may do so before it is put
pub spend_first : (is_reserved : Bool) (area : Area) (n : ℕ) (s : State) (entry : LogEntry) → put (spend_if is_reserved area n s) entry ≡ spend_if is_reserved area n (put s entry)
spend_first false area n s entry = refl
spend_first true area n s entry =
    let change : List Area → List Area = change_first (is_area area.client area.number) (with_less_held (own n)) in
    put_with_areas s (change s.areas) entry ∙ ap (λ (areas : List Area). record (put s entry) { areas = change areas }) (sym (put_areas s entry))

-- the containers of a log that was put into
seal_containers : (s : State) → (seal s).containers ≡ s.containers
seal_containers s = elim (cases_Bool (nat_lt 0 s.place.records)) [ inl some ↦ rw some refl | inr none ↦ rw none refl ]

put_by_containers : (joining beginning : Bool) (s : State) (entry : LogEntry) → (put_by joining beginning s entry).containers ≡ s.containers
put_by_containers true beginning s entry = refl
put_by_containers false true s entry = seal_containers s
put_by_containers false false s entry = seal_containers s

pub put_containers : (s : State) (entry : LogEntry) → (put s entry).containers ≡ s.containers
put_containers s entry = put_by_containers (joins s.shape s.place (length entry.bytes)) (begins_here s.shape s.place (length entry.bytes)) s entry

-- a record that a call may append through an area
pub record MayJoin (s : State) (client number : ℕ) (area : Area) (entry : LogEntry) (is_reserved : Bool) (more : ℕ) : Type 0 where
  pub there : area_of s client number ≡ Some area
  pub short : length entry.bytes ≤ longest s.shape
  pub joining : IsJoining s (placed entry (next_lsn s (length entry.bytes)))
  pub held : spent_of is_reserved (length entry.bytes) ≤ area.held
  pub room : reserved s + (own_unless is_reserved (length entry.bytes) + more) ≤ free s

-- what is there once the area has spent its sectors
pub record HasSpent (s : State) (client number : ℕ) (area : Area) (entry : LogEntry) (more : ℕ) : Type 0 where
  pub valid : IsValid s
  pub area_there : area_of s client number ≡ Some area
  pub short : length entry.bytes ≤ longest s.shape
  pub joining : IsJoining s (placed entry (next_lsn s (length entry.bytes)))
  pub room : reserved s + own (length entry.bytes) + more ≤ free s

pub spent : (s : State) (client number : ℕ) (area : Area) (entry : LogEntry) (is_reserved : Bool) (more : ℕ) → IsValid s → MayJoin s client number area entry is_reserved more
    → (after : Area) × (HasSpent (spend_if is_reserved area (length entry.bytes) s) client number after entry more
    × ((after.client ≡ area.client) × (after.number ≡ area.number)))
spent s client number area entry false more valid may =
    (area, (record { valid = valid; area_there = may.there; short = may.short; joining = may.joining; room = omega (arith, may.room) }, (refl, refl)))
spent s client number area entry true more valid may =
    let n = length entry.bytes in
    let name = area_named client number s.areas area may.there in
    let sum = sum_changed (is_area client number) (with_less_held (own n)) s.areas area may.there in
    let F : ℕ → ℕ → Type 0 = λ c k. HasSpent (change_area (with_less_held (own n)) c k s) client number (with_less_held (own n) area) entry more in
    let G : ℕ → Type 0 = λ c. F c area.number in
    let H : ℕ → Type 0 = λ k. F client k in
    let valid_at : (c k : ℕ) → area.client ≡ c → area.number ≡ k → IsValid (change_area (with_less_held (own n)) c k s) =
    λ c k same_c same_k. let V : ℕ → Type 0 = λ x. IsValid (change_area (with_less_held (own n)) x area.number s) in
    let W : ℕ → Type 0 = λ y. IsValid (change_area (with_less_held (own n)) c y s) in
    subst W same_k (subst V same_c (valid_released s client number (own n) area may.there valid)) in
    let here : HasSpent (change_area (with_less_held (own n)) client number s) client number (with_less_held (own n) area) entry more = record {
      valid = valid_at client number name.0 name.1;
      area_there = find_changed (with_less_held (own n)) (record { client = λ a. refl; number = λ a. refl }) client number s.areas ∙ ap (option_map (with_less_held (own n))) may.there;
      short = may.short;
      joining = record { stream = may.joining.stream; previous = may.joining.previous; undo_next = may.joining.undo_next };
      room = omega (arith, sum, may.held, may.room);
    } in
    (with_less_held (own n) area, (subst G (sym name.0) (subst H (sym name.1) here), (refl, refl)))

-- an area is named by its client and its number
pub hold_named : (a b : Area) (sizes : List ℕ) (s : State) → a.client ≡ b.client → a.number ≡ b.number → hold_sizes a sizes s ≡ hold_sizes b sizes s
hold_named a b [] s clients numbers = refl
hold_named a b (size ∷ sizes) s clients numbers =
    let change : Area → Area = with_more_held (own_sum (size ∷ sizes)) in
    ap (λ (c : ℕ). change_area change c a.number s) clients ∙ ap (λ (k : ℕ). change_area change b.client k s) numbers

-- the log after a record was put through an area
pub valid_joined : HasSpaceLaws → (s : State) (client number : ℕ) (area : Area) (entry : LogEntry) (is_reserved : Bool) (sizes : List ℕ) → IsValid s → 2 ≤ s.containers
    → MayJoin s client number area entry is_reserved (own_sum sizes) → entry.kind ≡ Plain
    → IsValid (hold_sizes area sizes (spend_if is_reserved area (length entry.bytes) (put s entry)))
valid_joined space s client number area entry is_reserved sizes valid two may plain =
    let n = length entry.bytes in
    let some = spent s client number area entry is_reserved (own_sum sizes) valid may in
    let v : State = spend_if is_reserved area n s in
    let after : Area = some.0 in
    let has = some.1.0 in
    let t : State = put v entry in
    let takes : TakesRecord v n = record { short = has.short; room = omega (arith, has.room) } in
    let is = sound_put space v entry (sound_of v has.valid) takes has.joining in
    let valid_t = valid_put space v entry has.valid takes has.joining plain in
    let same = put_areas v entry in
    let sum : reserved t ≡ reserved v = ap held_sum same in
    let there : area_of t client number ≡ Some after = ap (λ (areas : List Area). find (is_area client number) areas) same ∙ has.area_there in
    let many : 2 ≤ t.containers = omega (arith, two, put_containers v entry, spend_containers is_reserved area n s) in
    let valid_sized = valid_sizes t client number sizes after there (omega (arith, has.room, is.free, sum)) many valid_t in
    let named : IsValid (hold_sizes area sizes t) = subst IsValid (hold_named after area sizes t some.1.1.0 some.1.1.1) valid_sized in
    let F : State → Type 0 = λ u. IsValid (hold_sizes area sizes u) in
    subst F (spend_first is_reserved area n s entry) named
  where
    spend_containers : (is_reserved : Bool) (area : Area) (n : ℕ) (s : State) → (spend_if is_reserved area n s).containers ≡ s.containers
    spend_containers false area n s = refl
    spend_containers true area n s = refl

-- what an append that isn't refused tells
pub true_of_not : (b : Bool) → not b ≡ false → b ≡ true
true_of_not true is = refl
true_of_not false is = absurd (cc)

pub first_fits : (greatest n : ℕ) (ns : List ℕ) → find (λ len. nat_lt greatest len) (n ∷ ns) ≡ None → n ≤ greatest
first_fits greatest n ns none = elim (cases_Bool (nat_lt greatest n)) [
  | inl long ↦ absurd (let found = rw long at none in cc)
  | inr fits ↦ ltb-false greatest n fits
]

pub record IsAllowed (s : State) (area : Area) (draft : Draft) (is_reserved : Bool) (sizes : List ℕ) : Type 0 where
  pub short : length draft.bytes ≤ area.largest
  pub previous : is_link s area.stream draft.previous ≡ true
  pub undo_next : is_link s area.stream draft.undo_next ≡ true
  pub held : spent_of is_reserved (length draft.bytes) ≤ area.held
  pub room : has_room s (need_of is_reserved (length draft.bytes) sizes) ≡ true

pub allowed : (s : State) (area : Area) (draft : Draft) (is_reserved : Bool) (sizes : List ℕ) → append_refusal s area draft is_reserved sizes ≡ None → IsAllowed s area draft is_reserved sizes
allowed s area draft is_reserved sizes none =
    let n = length draft.bytes in
    let room = full s (need_of is_reserved n sizes) in
    let holds = short area (spent_of is_reserved n) room in
    let undo_next = invalid_link s area.stream draft.undo_next holds in
    let previous = invalid_link s area.stream draft.previous undo_next in
    let long = none_of_option (find (λ len. nat_lt area.largest len) (n ∷ sizes)) (λ len. refusals.RecordTooLong len area.largest) previous none in
    let first = passed (not (is_link s area.stream draft.previous)) (refusals.LinkInvalid draft.previous) undo_next (passed_long area.largest (n ∷ sizes) previous none) in
    let second = passed (not (is_link s area.stream draft.undo_next)) (refusals.LinkInvalid draft.undo_next) holds first.1 in
    let third = passed (nat_lt area.held (spent_of is_reserved n)) (refusals.ReservationShort area.held (spent_of is_reserved n)) room second.1 in
    let need = need_of is_reserved n sizes in
    let fourth = passed (not (has_room s need)) (refusals.Full (free (grown s need)) (reserved (grown s need)) need) None third.1 in
    record {
      short = first_fits area.largest n sizes long;
      previous = true_of_not _ first.0;
      undo_next = true_of_not _ second.0;
      held = ltb-false area.held (spent_of is_reserved n) third.0;
      room = true_of_not _ fourth.0;
    }

-- a link lies below the next record
pub link_behind : (link a b : ℕ) → a ≤ b → (link ≡ null_lsn) ⊎ (link < a) → (link ≡ null_lsn) ⊎ (link < b)
link_behind link a b above (inl none) = inl none
link_behind link a b above (inr below) = inr (omega (arith, below, above))

-- what a log that has grown for an append allows
pub may_append : (s : State) (client number : ℕ) (area : Area) (draft : Draft) (is_reserved : Bool) (sizes : List ℕ) (u : State)
    → u ≡ grown s (need_of is_reserved (length draft.bytes) sizes)
    → u ≡ with_containers u.containers s → IsValid s → IsValid u → area_of s client number ≡ Some area
    → IsAllowed s area draft is_reserved sizes → MayJoin u client number area (plain_record area draft) is_reserved (own_sum sizes)
may_append s client number area draft is_reserved sizes u grows is valid_s valid there allows =
    let n = length draft.bytes in
    let sound = sound_of u valid in
    let fits = its_area s client number area there valid_s in
    let above = next_above u n sound in
    let Linked : ℕ → State → Type 0 = λ link x. is_link x area.stream link ≡ true in
    let previous = link_below u area.stream draft.previous sound (subst (Linked draft.previous) (sym is) allows.previous) in
    let undo_next = link_below u area.stream draft.undo_next sound (subst (Linked draft.undo_next) (sym is) allows.undo_next) in
    let Named : State → Type 0 = λ x. area_of x client number ≡ Some area in
    let On : State → Type 0 = λ x. IsSome (stream_at x area.stream) in
    let Short : State → Type 0 = λ x. n ≤ longest x.shape in
    let enough : reserved s + need_of is_reserved n sizes ≤ free u =
    let Free : State → Type 0 = λ x. reserved s + need_of is_reserved n sizes ≤ free x in subst Free (sym grows) (room_is s (need_of is_reserved n sizes) allows.room) in
    let sum : reserved u ≡ reserved s = ap reserved is in
    record {
      there = subst Named (sym is) there;
      short = subst Short (sym is) (omega (arith, allows.short, fits.largest));
      joining = record {
        stream = subst On (sym is) fits.stream;
        previous = link_behind draft.previous (frontier u.place) (next_lsn u n) above previous;
        undo_next = link_behind draft.undo_next (frontier u.place) (next_lsn u n) above undo_next;
      };
      held = allows.held;
      room = omega (arith, enough, sum);
    }

pub valid_seal_if : (asked : Bool) (s : State) → IsValid s → IsValid (seal_if asked s)
valid_seal_if true s valid = valid_seal s valid
valid_seal_if false s valid = valid

valid_flush_if : (asked : Bool) (s : State) → IsValid s → IsValid (flush_if asked s)
valid_flush_if true s valid = valid_flush s (sound_of s valid)
valid_flush_if false s valid = valid

-- an append that isn't refused
pub valid_appended : HasSpaceLaws → (s : State) (client number : ℕ) (area : Area) (draft : Draft) (is_reserved : Bool) (sizes : List ℕ) → IsValid s → 2 ≤ s.containers
    → area_of s client number ≡ Some area → append_refusal s area draft is_reserved sizes ≡ None → IsValid (appended s area draft is_reserved sizes)
valid_appended space s client number area draft is_reserved sizes valid two there none =
    let need = need_of is_reserved (length draft.bytes) sizes in
    let u : State = grown s need in
    let valid_u : IsValid u = valid_grown space s need valid in
    let may = may_append s client number area draft is_reserved sizes u refl (grown_is s need) valid valid_u there (allowed s area draft is_reserved sizes none) in
    let joined = valid_joined space u client number area (plain_record area draft) is_reserved sizes valid_u (omega (arith, two, grown_no_fewer space s need)) may refl in
    valid_flush_if draft.flush _ (valid_seal_if draft.seal _ joined)
