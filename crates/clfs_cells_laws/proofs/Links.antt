-- The room and the links of a store's next record: neither is refused.
use Rattle.clfs_cells_laws.proofs.Words.{◌≡◌, ◌⊎◌, ℕ, ◌+◌, ◌-◌, ◌≤◌, Bool, true, false, refl, ap, ◌∙◌, inl, inr, arith, List, [], ◌∷◌, ◌++◌, length, Option}
use Rattle.clfs_cells_laws.proofs.Words.{Some, None, length-append, not, ◌||◌, ◌==◌, filter, nat_lt, is_some, AllByRecursion, option_map_or, cases_Bool}
use Rattle.clfs_cells_laws.proofs.Words.{le-ltb, filter-append, null_lsn, Cursor, Draft, Refusal, Area, State, live_at, refusal, refused_if, free, grown}
use Rattle.clfs_cells_laws.proofs.Words.{has_room, reserved, base_of, Made, Action, Change, append_call, txn_bytes, txn_record, Memory, Transaction}
use Rattle.clfs_cells_laws.proofs.Words.{newest_standing, standing, with_one_undone, IsInLog, IsLiveRecord, IsOpen, IsStoreWith, newest_of, records_left}
use Rattle.clfs_cells_laws.proofs.Words.{sectors_held, store_area}
use Rattle.clfs_model.specs.declared.refusal.Refusal.TheVariants as refusals
use Rattle.clfs_model.specs.Refusals.{append_refusal, is_link}
use Rattle.clfs_cells_laws.proofs.Changes.{new_made, with_made}
use Rattle.clfs_cells_laws.proofs.Grown.{live_there}
use Rattle.clfs_cells_laws.proofs.OneOf.{sectors_parts}
use Rattle.clfs_cells_laws.proofs.OwnCalls.{Laws}
use Rattle.clfs_cells_laws.proofs.Stacks.{standing_has, standing_length, taken_length}

-- ---- links

any_true : (a b c : Bool) → c ≡ true → (a || b || c) ≡ true
any_true true b c is = refl
any_true false true c is = refl
any_true false false c is = is

pub live_link : (s : State) (stream lsn : ℕ) → IsLiveRecord s stream lsn → is_link s stream lsn ≡ true
live_link s stream lsn is =
    any_true (lsn == null_lsn) (nat_lt lsn (base_of s stream)) (is_some (live_at s stream lsn)) (ap is_some (live_there s stream lsn is))

pub null_link : (s : State) (stream lsn : ℕ) → lsn ≡ null_lsn → is_link s stream lsn ≡ true
null_link s stream lsn is = rw is refl

-- null, or a live record
abbrev pub IsNullOrLive : State → ℕ → ℕ → Type 0
IsNullOrLive s stream lsn = (lsn ≡ null_lsn) ⊎ IsLiveRecord s stream lsn

pub link_of : (s : State) (stream lsn : ℕ) → IsNullOrLive s stream lsn → is_link s stream lsn ≡ true
link_of s stream lsn is = elim is [ inl null ↦ null_link s stream lsn null | inr live ↦ live_link s stream lsn live ]

pub newest_live : (s : State) (stream : ℕ) (made : List Made) → AllByRecursion (IsInLog s stream) made → IsNullOrLive s stream (newest_of made)
newest_live s stream [] all = inl refl
newest_live s stream (m ∷ made) all = inr all.0.at

pub standing_live : (s : State) (memory : Memory) (t : Transaction) → IsOpen s memory t → IsNullOrLive s memory.stream (newest_standing t)
standing_live s memory t open_one = newest_live s memory.stream (standing t) (standing_has (IsInLog s memory.stream) t open_one.logged)

-- ---- the room that is left

count : Transaction → ℕ
count t = length (filter (λ (o : Made). o.undone) t.made)

pub some_left : (t : Transaction) → length t.made ≤ t.changes → 1 ≤ records_left t
some_left t few = let stand = standing_length t in omega (arith, stand, few)

-- a further set takes one record of it
pub made_left : (t : Transaction) (change : Change) (lsn : ℕ) → records_left (with_made t change lsn) ≡ records_left t - 1
made_left t change lsn =
    let new : Made = new_made t change lsn in
    let gone : List Made → List Made = filter (λ (o : Made). o.undone) in
    let one : length (t.made ++ new ∷ []) ≡ length t.made + 1 = length-append t.made (new ∷ []) in
    let none : length (gone (t.made ++ new ∷ [])) ≡ length (gone t.made) + 0
    = ap length (filter-append (λ (o : Made). o.undone) t.made (new ∷ [])) ∙ length-append (gone t.made) [] in
    omega (arith, one, none)

-- so does taking one back
pub undone_left : (t : Transaction) (made : Made) (older : List Made) (lsn : ℕ) → standing t ≡ made ∷ older → standing (with_one_undone made.lsn lsn t) ≡ older
    → records_left (with_one_undone made.lsn lsn t) ≡ records_left t - 1
undone_left t made older lsn is left =
    let u : Transaction = with_one_undone made.lsn lsn t in
    let before = standing_length t in
    let after = standing_length u in
    let stood : length (standing t) ≡ length older + 1 = ap length is ∙ (let more : length (made ∷ older) ≡ length older + 1 = omega arith in more) in
    let stand : length (standing u) ≡ length older = ap length left in
    let long : length u.made ≡ length t.made = taken_length made.lsn t.made in
    omega (arith, before, after, stood, stand, long)

-- what the area holds where one transaction has a record less to append
pub held_less : (before after : List Transaction) (t u : Transaction) → 1 ≤ records_left t → records_left u ≡ records_left t - 1
    → sectors_held (before ++ u ∷ after) ≡ sectors_held (before ++ t ∷ after) - 1
held_less before after t u some less =
    let of_t = sectors_parts before after t in
    let of_u = sectors_parts before after u in
    omega (arith, of_t, of_u, some, less)

pub some_held : (before after : List Transaction) (t : Transaction) → 1 ≤ records_left t → 1 ≤ sectors_held (before ++ t ∷ after)
some_held before after t some = let of_t = sectors_parts before after t in omega (arith, of_t, some)

-- ---- no test refuses it

-- a transaction's record, as it is appended
abbrev pub draft_of : Transaction → Action → ℕ → Bool → Draft
draft_of t action undo_next flush =
    record { bytes = txn_bytes (txn_record t.number action); previous = t.last; undo_next = undo_next; seal = false; flush = flush }

abbrev chain : Bool → Bool → Bool → Bool → Bool → Refusal → Refusal → Refusal → Refusal → Refusal → Option Refusal
chain few previous next short full a b c d e = refused_if few a (refused_if previous b (refused_if next c (refused_if short d (refused_if full e None))))

none_of_them : (few previous next short full : Bool) (a b c d e : Refusal) → few ≡ false → previous ≡ false → next ≡ false → short ≡ false → full ≡ false
    → chain few previous next short full a b c d e ≡ None
none_of_them few previous next short full a b c d e p q r t u = rw (p, q, r, t, u) refl

first_of_them : (few previous next short full : Bool) (a b c d e : Refusal) → few ≡ true → chain few previous next short full a b c d e ≡ Some a
first_of_them few previous next short full a b c d e p = rw p refl

last_of_them : (few previous next short full : Bool) (a b c d e : Refusal) → few ≡ false → previous ≡ false → next ≡ false → short ≡ false → full ≡ true
    → chain few previous next short full a b c d e ≡ Some e
last_of_them few previous next short full a b c d e p q r t u = rw (p, q, r, t, u) refl

not_false : (b : Bool) → b ≡ true → not b ≡ false
not_false b is = ap not is

module _ (tabled : Bool) (laws : Laws) (s : State) (memory : Memory) (cursors : List Cursor) (store : IsStoreWith tabled cursors s memory) (t : Transaction) (action : Action) (undo_next : ℕ)
    (flush : Bool) (previous_live : IsNullOrLive s memory.stream t.last) (next_live : IsNullOrLive s memory.stream undo_next) (held : 1 ≤ sectors_held memory.transactions)
    (long : length (txn_bytes (txn_record t.number action)) ≡ 24) where
  as_chain : refusal s memory.client (append_call memory t action undo_next flush)
      ≡ chain (nat_lt s.containers 2) (not (is_link s memory.stream t.last)) (not (is_link s memory.stream undo_next)) (nat_lt (sectors_held memory.transactions) 1)
      (not (has_room s 0)) (refusals.NotEnoughContainers s.containers) (refusals.LinkInvalid t.last) (refusals.LinkInvalid undo_next)
      (refusals.ReservationShort (sectors_held memory.transactions) 1) (refusals.Full (free (grown s 0)) (reserved (grown s 0)) 0)
  as_chain = ap (λ (o : Option Area). refused_if (nat_lt s.containers 2) (refusals.NotEnoughContainers s.containers)
      (option_map_or (λ (a : Area). append_refusal s a (draft_of t action undo_next flush) true []) o (Some refusals.NoSuchArea))) store.area

  link_one : not (is_link s memory.stream t.last) ≡ false
  link_one = not_false _ (link_of s memory.stream t.last previous_live)

  link_two : not (is_link s memory.stream undo_next) ≡ false
  link_two = not_false _ (link_of s memory.stream undo_next next_live)

  enough : nat_lt (sectors_held memory.transactions) 1 ≡ false
  enough = le-ltb (sectors_held memory.transactions) 1 held

  pub append_passes : refusal s memory.client (append_call memory t action undo_next flush) ≡ None
  append_passes = elim (cases_Bool (nat_lt s.containers 2)) [
    | inl few ↦ absurd (laws.containers s memory.client memory.area (store_area memory cursors) (draft_of t action undo_next flush) s.containers store.valid store.area held
        (as_chain ∙ first_of_them (nat_lt s.containers 2) (not (is_link s memory.stream t.last)) (not (is_link s memory.stream undo_next)) (nat_lt (sectors_held memory.transactions) 1)
        (not (has_room s 0)) (refusals.NotEnoughContainers s.containers) (refusals.LinkInvalid t.last) (refusals.LinkInvalid undo_next)
        (refusals.ReservationShort (sectors_held memory.transactions) 1) (refusals.Full (free (grown s 0)) (reserved (grown s 0)) 0) few))
    | inr more ↦ elim (cases_Bool (not (has_room s 0))) [
      | inl full ↦ absurd (laws.space s memory.client memory.area (store_area memory cursors) (draft_of t action undo_next flush) (free (grown s 0)) (reserved (grown s 0)) 0 store.valid store.area held
          (as_chain ∙ last_of_them (nat_lt s.containers 2) (not (is_link s memory.stream t.last)) (not (is_link s memory.stream undo_next)) (nat_lt (sectors_held memory.transactions) 1)
          (not (has_room s 0)) (refusals.NotEnoughContainers s.containers) (refusals.LinkInvalid t.last) (refusals.LinkInvalid undo_next)
          (refusals.ReservationShort (sectors_held memory.transactions) 1) (refusals.Full (free (grown s 0)) (reserved (grown s 0)) 0) more link_one link_two enough full))
      | inr room ↦ as_chain ∙ none_of_them (nat_lt s.containers 2) (not (is_link s memory.stream t.last)) (not (is_link s memory.stream undo_next)) (nat_lt (sectors_held memory.transactions) 1)
          (not (has_room s 0)) (refusals.NotEnoughContainers s.containers) (refusals.LinkInvalid t.last) (refusals.LinkInvalid undo_next)
          (refusals.ReservationShort (sectors_held memory.transactions) 1) (refusals.Full (free (grown s 0)) (reserved (grown s 0)) 0) more link_one link_two enough room
    ]
  ]
