-- A record that there is room for is put after the open block's payload.
use Rattle.clfs_queue.proofs.Words.{◌≡◌, inr, ⊎_elim, ℕ, ◌+◌, ◌*◌, ◌%◌, ◌≤◌, List, [], ◌∷◌, ◌++◌, length, take, drop, replicate, refl, sym, ◌∙◌, ap, subst}
use Rattle.clfs_queue.proofs.Words.{arith, append_assoc, length-append, length-drop, take-append-drop, nat_tests, append-nil, take-append-le, length_push}
use Rattle.clfs_queue.proofs.Words.{flat_map-append, flat_map, concat, lsn_number, IsWithin, IsClosed, place_after, size, sectors, longest, FitsAt}
use Rattle.clfs_queue.proofs.Words.{record_bytes, Shape, Place, LogEntry, place_of, payload_of, Queued, HasRoomFor, AreInRow, IsKept}
use Rattle.std.proofs.Common.{true, false}
use Rattle.std.proofs.lemmas.Bool.{cases_lt}
use Rattle.std.proofs.lemmas.List.{drop-append-le, drop_all}
use Rattle.clfs_lsn.specs.Place.{block_end, joins, begins_here, begun}
use Rattle.clfs_queue.proofs.InRow.{row_push}
use Rattle.clfs_queue.proofs.Contents.{length-payload}
use Rattle.clfs_queue.proofs.Keeping.{open_end, closed_end, kept_front, kept_part, kept_length, room_left}

-- the place after a record that joins, or that begins a block where none is open
abbrev pub next_place : Place → ℕ → ℕ → ℕ × Place
next_place place used n =
    (lsn_number place.container place.offset place.records, record place { used = used + size n; records = place.records + 1 })

-- where a record goes that joins
joined_place : (shape : Shape) (place : Place) (n : ℕ) → joins shape place n ≡ true → place_after shape place n ≡ next_place place place.used n
joined_place shape place n is = rw is refl

-- the first record of a block at an offset
abbrev begun_at : ℕ → ℕ → ℕ → ℕ → ℕ × Place
begun_at container offset records n =
    (lsn_number container offset records, record { container = container; offset = offset; used = 16 + size n; records = records + 1 })

-- where a record goes that begins a block
begun_place : (shape : Shape) (place : Place) (n : ℕ) → IsClosed place → place.offset % 512 ≡ 0 → begins_here shape place n ≡ true
    → place_after shape place n ≡ next_place place 16 n
begun_place shape place n closed whole is =
    let apart : joins shape place n ≡ false = grind (arith, nat_tests) in
    let offset_is : 512 * block_end place ≡ place.offset = omega (arith, whole, closed.0) in
    let c = place.container in
    rw (apart, is) (ap (λ (o : ℕ). begun_at c o 0 n) offset_is ∙ ap (λ (r : ℕ). begun_at c place.offset r n) (sym closed.1))

-- a record joins an open block, and the largest block has the sectors of both
joins_some : (shape : Shape) (place : Place) (n : ℕ) → joins shape place n ≡ true
    → (1 ≤ place.records) × (sectors (place.used + size n) ≤ shape.block_sectors)
joins_some shape place n is = grind (arith, nat_tests)

-- What a record is put after: the open block, or one that begins. It has so many used bytes and these records, stands after the
-- sealed blocks, and has room for a record of n bytes.
pub record IsTaking (q : Queued) (sealed_bytes memory n used : ℕ) (done opened : List LogEntry) (front now : List ℕ) : Type 0 where
  pub records : q.records ≡ done ++ opened
  pub header : 16 ≤ used
  pub length_is : length now ≡ sealed_bytes + place_of used
  pub front_is : take sealed_bytes now ≡ front
  pub content : drop 16 (payload_of used (drop sealed_bytes now)) ≡ flat_map record_bytes opened
  pub count : q.place.records ≡ length opened
  pub few : length q.waiting ≤ q.buffers
  pub room : sealed_bytes + place_of (used + size n) ≤ memory
  pub row : AreInRow (lsn_number q.place.container q.place.offset 0) opened
  pub place : place_after q.shape q.place n ≡ next_place q.place used n

module _ (q : Queued) (bytes : List ℕ) (sealed_bytes memory starts_memory n : ℕ) (kept : IsKept q bytes sealed_bytes memory starts_memory)
    (long : n ≤ longest q.shape) (room : HasRoomFor q n) where
  -- a block can begin where none is open
  begins : q.place.records ≡ 0 → (begins_here q.shape q.place n ≡ true) × (IsClosed q.place × (length q.waiting ≤ q.buffers))
  begins none = ⊎_elim {C = (begins_here q.shape q.place n ≡ true) × (IsClosed q.place × (length q.waiting ≤ q.buffers))}
      (λ is. absurd (omega (arith, none, (joins_some q.shape q.place n is).0))) (λ here. here) room

  -- and a record joins where one is
  joining : 1 ≤ q.place.records → joins q.shape q.place n ≡ true
  joining some = ⊎_elim {C = joins q.shape q.place n ≡ true} (λ is. is) (λ here. absurd (omega (arith, some, here.1.0.1))) room

  -- there is memory for the header of a block that begins
  pub header_room : q.place.records ≡ 0 → length bytes + 15 ≤ memory
  header_room none =
      let part = (closed_end q.place kept.opened kept.part kept.end none).2 in
      omega (
        arith,
        room_left q bytes sealed_bytes memory starts_memory kept (begins none).1.1,
        kept_length q bytes sealed_bytes memory starts_memory kept,
        ap (λ (l : List ℕ). length l) part,
        kept.shape.some_sectors,
      )

  -- what it is put after where a block begins
  taking_begun : (now : List ℕ) (used more : ℕ) → q.place.records ≡ 0 → used ≡ 16 → now ≡ bytes ++ replicate 15 0 → memory ≤ more
      → IsTaking q sealed_bytes more n used kept.done [] (concat kept.blocks) now
  taking_begun now used more none used_is is le =
      let end = closed_end q.place kept.opened kept.part kept.end none in
      let here = begins none in
      let size_is : length bytes ≡ sealed_bytes + 1 =
      omega (arith, kept_length q bytes sealed_bytes memory starts_memory kept, ap (λ (l : List ℕ). length l) end.2) in
      record {
        records = kept.records ∙ ap (λ (l : List LogEntry). kept.done ++ l) end.1;
        header = omega (arith, used_is);
        length_is = ap (λ (l : List ℕ). length l) is ∙ omega (arith, size_is, used_is, length-append bytes (replicate 15 0));
        front_is = ap (λ (l : List ℕ). take sealed_bytes l) is ∙ take-append-le sealed_bytes bytes (replicate 15 0) (omega (arith, size_is))
            ∙ kept_front q bytes sealed_bytes memory starts_memory kept;
        content = drop_all 16 (payload_of used (drop sealed_bytes now)) (omega (arith, used_is, length-payload used (drop sealed_bytes now)));
        count = none;
        few = here.1.1;
        room = omega (arith, used_is, le, long, kept.shape.some_sectors, room_left q bytes sealed_bytes memory starts_memory kept here.1.1);
        row = tt;
        place = begun_place q.shape q.place n here.1.0 kept.place.offset here.0 ∙ ap (λ (u : ℕ). next_place q.place u n) (sym used_is);
      }

  -- and where one is open
  taking_open : (now : List ℕ) (used more : ℕ) → 1 ≤ q.place.records → used ≡ q.place.used → now ≡ bytes → memory ≤ more
      → IsTaking q sealed_bytes more n used kept.done kept.opened (concat kept.blocks) now
  taking_open now used more some used_is is le =
      let here = open_end q.place kept.opened kept.part kept.end some in
      let joins_is = joins_some q.shape q.place n (joining some) in
      record {
        records = kept.records;
        header = omega (arith, here.header, used_is);
        length_is = ap (λ (l : List ℕ). length l) is ∙ omega (arith, kept_length q bytes sealed_bytes memory starts_memory kept, here.length_is, used_is);
        front_is = ap (λ (l : List ℕ). take sealed_bytes l) is ∙ kept_front q bytes sealed_bytes memory starts_memory kept;
        content = ap (λ (u : ℕ). drop 16 (payload_of u (drop sealed_bytes now))) used_is
            ∙ ap (λ (l : List ℕ). drop 16 (payload_of q.place.used (drop sealed_bytes l))) is
            ∙ ap (λ (l : List ℕ). drop 16 (payload_of q.place.used l)) (kept_part q bytes sealed_bytes memory starts_memory kept) ∙ here.content;
        count = here.count;
        few = kept.few_sealed some;
        room = omega (arith, used_is, joins_is.1, le, room_left q bytes sealed_bytes memory starts_memory kept (kept.few_sealed some));
        row = here.row;
        place = joined_place q.shape q.place n (joining some) ∙ ap (λ (u : ℕ). next_place q.place u n) (sym used_is);
      }

  -- and so in both cases
  pub taking : (now : List ℕ) (used more : ℕ) → (q.place.records ≡ 0 → (used ≡ 16) × (now ≡ bytes ++ replicate 15 0))
      → (1 ≤ q.place.records → (used ≡ q.place.used) × (now ≡ bytes)) → memory ≤ more
      → (opened : List LogEntry) × IsTaking q sealed_bytes more n used kept.done opened (concat kept.blocks) now
  taking now used more begun is_open le =
      ⊎_elim {C = (opened : List LogEntry) × IsTaking q sealed_bytes more n used kept.done opened (concat kept.blocks) now}
      (λ low.
      let none : q.place.records ≡ 0 = omega (arith, low) in
      ([], taking_begun now used more none (begun none).0 (begun none).1 le))
      (λ some. (kept.opened, taking_open now used more some (is_open some).0 (is_open some).1 le))
      (cases_lt q.place.records 1)

  -- the queue with the record
  pub kept_pushed : (used more : ℕ) (opened : List LogEntry) (now new : List ℕ) (entry : LogEntry) → IsTaking q sealed_bytes more n used kept.done opened (concat kept.blocks) now
      → length new ≡ sealed_bytes + place_of (used + size n) → take sealed_bytes new ≡ take sealed_bytes now
      → payload_of (used + size n) (drop sealed_bytes new) ≡ payload_of used (drop sealed_bytes now) ++ record_bytes entry
      → (last : ℕ) → more ≤ last → memory ≤ more
      → FitsAt (lsn_number q.place.container q.place.offset q.place.records) entry.stream entry → IsWithin q.shape (next_place q.place used n).1
      → IsKept (record q { place = (next_place q.place used n).1; records = q.records ++ entry ∷ [] }) new sealed_bytes last starts_memory
  kept_pushed used more opened now new entry taking length_is front payload last last_le more_le fits within = record {
    shape = kept.shape;
    some_buffers = kept.some_buffers;
    few_buffers = kept.few_buffers;
    place = within;
    memory_is = omega (arith, kept.memory_is, last_le, more_le);
    starts_memory_is = kept.starts_memory_is;
    few = kept.few;
    few_sealed = λ _. taking.few;
    blocks = kept.blocks;
    done = kept.done;
    opened = opened ++ entry ∷ [];
    part = drop sealed_bytes new;
    records = ap (λ (l : List LogEntry). l ++ entry ∷ []) taking.records ∙ append_assoc kept.done opened (entry ∷ []);
    bytes_are = sym (take-append-drop sealed_bytes new) ∙ ap (λ (l : List ℕ). l ++ drop sealed_bytes new) (front ∙ taking.front_is);
    sealed_is = kept.sealed_is;
    behind = kept.behind;
    waiting = kept.waiting;
    end = inr (record {
      some = omega arith;
      header = omega (arith, taking.header);
      length_is = omega (arith, length_is, length-drop sealed_bytes new);
      content = ap (λ (l : List ℕ). drop 16 l) payload
          ∙ drop-append-le 16 (payload_of used (drop sealed_bytes now)) (record_bytes entry) (omega (arith, taking.header, length-payload used (drop sealed_bytes now)))
          ∙ ap (λ (l : List ℕ). l ++ record_bytes entry) taking.content ∙ content_one;
      count = omega (arith, taking.count, length_push opened entry);
      row = row_push (lsn_number q.place.container q.place.offset 0) opened entry taking.row
          (subst (λ (k : ℕ). FitsAt k entry.stream entry) (omega (arith, taking.count)) fits);
    });
  }
    where
      -- its bytes go on with those of the records before
      content_one : flat_map record_bytes opened ++ record_bytes entry ≡ flat_map record_bytes (opened ++ entry ∷ [])
      content_one = ap (λ (l : List ℕ). flat_map record_bytes opened ++ l) (sym (append-nil (record_bytes entry)))
          ∙ sym (flat_map-append record_bytes opened (entry ∷ []))
