-- The three ways in which a record joins: into the open block, into a new block after it, into the next container.
use Rattle.clfs_laws.proofs.Words.{◌≡◌, ℕ, suc, ◌+◌, ◌*◌, ◌<◌, ◌≤◌, true, refl, sym, ap, ◌∙◌, subst, inl, inr, ◌⊎◌, arith, List, [], ◌∷◌, ◌++◌, filter, map}
use Rattle.clfs_laws.proofs.Words.{All, IsSome, ◌==◌, range_with_len, All-weaker, All-from_recursion, recursion_from_All, null_lsn, lsn_number, container_of}
use Rattle.clfs_laws.proofs.Words.{offset_of, sequence_of, IsWithin, frontier, begun, active_containers, free_sectors, Place, LogEntry, State, stream_at}
use Rattle.clfs_laws.proofs.Words.{hold, free, reserved, block_start, first_or, flushed, IsRecord, IsWaiting, HasWaiting}
use Rattle.clfs_laws.proofs.LsnOrder.{small_offset, is_of_block, none_of_block, equal_true}
use Rattle.clfs_laws.proofs.ValidPlaces.{IsSound}
use Rattle.clfs_laws.proofs.SoundPuts.{with_record, IsNext, sound_with_record, free_with_record, filter_push, map_push, find_more, range_push}

-- a record of a stream that is there, whose links are null or below it
pub record IsJoining (m : State) (entry : LogEntry) : Type 0 where
  pub stream : IsSome (stream_at m entry.stream)
  pub previous : (entry.previous ≡ null_lsn) ⊎ (entry.previous < entry.lsn)
  pub undo_next : (entry.undo_next ≡ null_lsn) ⊎ (entry.undo_next < entry.lsn)

-- a place that has room for what the log holds
pub record HasPlace (m : State) (place : Place) : Type 0 where
  pub within : IsWithin m.shape place
  pub used : active_containers place (hold m) ≤ m.containers
  pub room : reserved m ≤ free_sectors m.shape place (hold m) m.containers

of_block_true : (container offset : ℕ) (entry : LogEntry) → container_of entry.lsn ≡ container → offset_of entry.lsn ≡ offset → is_of_block container offset entry ≡ true
of_block_true container offset entry of_container of_offset =
    rw (equal_true (container_of entry.lsn) container of_container) (equal_true (offset_of entry.lsn) offset of_offset)

-- the sequences of an open block with one record more
one_more : (container offset records : ℕ) (entries : List LogEntry) (entry : LogEntry) → is_of_block container offset entry ≡ true → sequence_of entry.lsn ≡ records
    → map (λ (e : LogEntry). sequence_of e.lsn) (filter (is_of_block container offset) entries) ≡ range_with_len 0 records
    → map (λ (e : LogEntry). sequence_of e.lsn) (filter (is_of_block container offset) (entries ++ entry ∷ [])) ≡ range_with_len 0 (suc records)
one_more container offset records entries entry of_block sequence are =
    ap (map (λ (e : LogEntry). sequence_of e.lsn)) (filter_push (is_of_block container offset) entries entry of_block)
    ∙ map_push (λ (e : LogEntry). sequence_of e.lsn) (filter (is_of_block container offset) entries) entry
    ∙ ap (λ ns. ns ++ sequence_of entry.lsn ∷ []) are
    ∙ ap (λ n. range_with_len 0 records ++ n ∷ []) sequence
    ∙ let e : 0 + records ≡ records = omega arith in
    ap (λ n. range_with_len 0 records ++ n ∷ []) (sym e) ∙ range_push 0 records

-- what waits still does, where a place in the same container isn't below the old one
waits_still : (m : State) (entry : LogEntry) (place : Place) → HasWaiting m → ((m.waiting ≡ []) ⊎ (m.place.container ≡ place.container)) → block_start m.place ≤ block_start place
    → HasWaiting (with_record m entry place)
waits_still m entry place waits (inl none) above = record {
  few = waits.few;
  rising = waits.rising;
  blocks =
      let F : List ℕ → Type 0 = All (IsWaiting (with_record m entry place)) in
      subst F (sym none) (All-from_recursion (IsWaiting (with_record m entry place)) [] tt);
}
waits_still m entry place waits (inr same) above = record {
  few = waits.few;
  rising = waits.rising;
  blocks = All-weaker (IsWaiting m) (IsWaiting (with_record m entry place))
      (λ start is. record {
        container = is.container ∙ same;
        sequence = is.sequence;
        first = find_more (λ (e : LogEntry). e.lsn == start) m.records (entry ∷ []) is.first;
        below = omega (arith, is.below, above);
      }) m.waiting waits.blocks;
}

first_more : (ns : List ℕ) (a b : ℕ) → a ≤ b → first_or a ns ≤ first_or b ns
first_more [] a b above = above
first_more (n ∷ ns) a b above = omega arith

-- a sound log with one more record, which has at least these free sectors, and at least so much on the disk
pub record HasJoined (t : State) (least stable : ℕ) : Type 0 where
  pub sound : IsSound t
  pub free : least ≤ free t
  pub more : stable ≤ flushed t

joined_next : (m : State) (entry : LogEntry) (place : Place) → IsSound m → IsNext m entry place
    → HasJoined (with_record m entry place) (free_sectors m.shape place (hold m) m.containers) (flushed m)
joined_next m entry place sound next = record {
  sound = sound_with_record m entry place sound next;
  free = free_with_record m entry place sound next;
  more = next.more;
}

-- into the open block
pub sound_joined : (m : State) (entry : LogEntry) (used : ℕ) → IsSound m → IsJoining m entry → 1 ≤ m.place.records → m.place.records ≤ 510
    → entry.lsn ≡ frontier m.place → HasPlace m (record m.place { used = used; records = m.place.records + 1 })
    → HasJoined (with_record m entry (record m.place { used = used; records = m.place.records + 1 }))
    (free_sectors m.shape (record m.place { used = used; records = m.place.records + 1 }) (hold m) m.containers) (flushed m)
sound_joined m entry used sound joining some few at has =
    let place : Place = record m.place { used = used; records = m.place.records + 1 } in
    let low = small_offset m.shape m.place sound.ranges.shape sound.ranges.place in
    let whole = sound.ranges.place.offset in
    let of_container : container_of entry.lsn ≡ m.place.container = omega (arith, at, low, few) in
    let of_offset : offset_of entry.lsn ≡ m.place.offset = omega (arith, at, low, few, whole) in
    let of_sequence : sequence_of entry.lsn ≡ m.place.records = omega (arith, at, whole, few) in
    let e : m.place.records + 1 ≡ suc m.place.records = omega arith in
    joined_next m entry place sound (record {
      within = has.within;
      behind = omega (arith, at);
      below = omega (arith, at);
      stream = joining.stream;
      previous = joining.previous;
      undo_next = joining.undo_next;
      block = one_more m.place.container m.place.offset m.place.records m.records entry (of_block_true m.place.container m.place.offset entry of_container of_offset)
          of_sequence sound.records.open_block ∙ ap (range_with_len 0) (sym e);
      waiting = waits_still m entry place sound.waiting (inr refl) (omega arith);
      more = first_more m.waiting (block_start m.place) (block_start place) (omega arith);
      used = has.used;
      room = has.room;
    })

-- into a block of its own, after a log without an open block
pub sound_begun : (m : State) (entry : LogEntry) (container sector n : ℕ) → IsSound m → IsJoining m entry → m.place.records ≡ 0
    → entry.lsn ≡ lsn_number container (512 * sector) 0 → block_start m.place ≤ entry.lsn
    → ((m.waiting ≡ []) ⊎ (m.place.container ≡ container)) → HasPlace m (begun container sector n)
    → HasJoined (with_record m entry (begun container sector n)) (free_sectors m.shape (begun container sector n) (hold m) m.containers) (flushed m)
sound_begun m entry container sector n sound joining empty at above waits has =
    let place : Place = begun container sector n in
    let low : 512 * sector ≤ 8388608 = omega (arith, has.within.end, sound.ranges.shape.largest_container) in
    let of_container : container_of entry.lsn ≡ container = omega (arith, at, low) in
    let of_offset : offset_of entry.lsn ≡ 512 * sector = omega (arith, at, low) in
    let of_sequence : sequence_of entry.lsn ≡ 0 = omega (arith, at) in
    let none = none_of_block container (512 * sector) m.records (omega arith) (omega (arith, low))
    (recursion_from_All (λ (e : LogEntry). e.lsn < lsn_number container (512 * sector) 0) m.records
    (All-weaker (IsRecord m) (λ (e : LogEntry). e.lsn < lsn_number container (512 * sector) 0) (λ e is. omega (arith, is.below, empty, above, at)) m.records sound.records.records)) in
    joined_next m entry place sound (record {
      within = has.within;
      behind = omega (arith, empty, above);
      below = omega (arith, at);
      stream = joining.stream;
      previous = joining.previous;
      undo_next = joining.undo_next;
      block = one_more container (512 * sector) 0 m.records entry (of_block_true container (512 * sector) entry of_container of_offset)
          of_sequence (ap (map (λ (e : LogEntry). sequence_of e.lsn)) none);
      waiting = waits_still m entry place sound.waiting waits (omega (arith, at, above));
      more = first_more m.waiting (block_start m.place) (block_start place) (omega (arith, at, above));
      used = has.used;
      room = has.room;
    })
