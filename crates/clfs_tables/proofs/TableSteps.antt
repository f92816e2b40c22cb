-- What each change of the tables leaves of what is true of them.
use Rattle.std.proofs.Common.{◌≡◌, ℕ, ◌+◌, ◌-◌, ◌<◌, ◌≤◌, false, refl, sym, ap, ◌∙◌, inl, inr, arith, List, [], ◌∷◌, ◌++◌, length, zero, suc, Option, get_or, set, slice_get, min}
use Rattle.std.specs.Prelude.{slice_index, ◌==◌, All, Result, Ok, Err, OnOk}
use Rattle.std.specs.Option.{option_map, option_map_or}
use Rattle.std.proofs.lemmas.Bool.{cases_Bool, cases_eq, cases_lt, eq-eqb, eqb-false, ne_eqb}
use Rattle.std.proofs.lemmas.List.{append-nil, get_or_append_left, get_or_push, get_or-set_same, get_or-set_other, length_push, length-map, map-set, set-get_or}
use Rattle.std.proofs.lemmas.List.Elements.{All-cons, All-tail, All-drop, All-filter, All-weaker, filter-append}
use Rattle.std.proofs.lemmas.Option.{slice_get_past}
use Rattle.clfs_lsn.specs.Lsn.{null_lsn}
use Rattle.clfs_lsn.specs.declared.entry.Head.{Head}
use Rattle.clfs_lsn.specs.declared.stream.Stream.{Stream}
use Rattle.clfs_lsn.specs.Streams.{set_base}
use Rattle.clfs_lsn.specs.Heads.{heads_from, live_heads, stream_heads, is_restart}
use Rattle.clfs_tail.specs.Firsts.{first_live, AreFirsts}
use Rattle.clfs_tables.specs.declared.tables.StreamRow.{StreamRow}
use Rattle.clfs_tables.specs.Tables.{IsDeadBelow, IsHead, IsKept, IsNumber, IsRow, base_in, restarts_of, room_in}
use Rattle.clfs_tables.proofs.Kept.{kept_further, kept_with, live_kept, none_kept}
use Rattle.clfs_tables.proofs.StreamRows.{dead_in}

-- the base in a stream that is or isn't there
abbrev pub base_or_null : Option Stream → ℕ
base_or_null found = option_map_or (λ (stream : Stream). stream.base) found null_lsn

-- ---- a stream more

got_with_null : (streams : List Stream) (name : List ℕ) (i : ℕ)
    → base_or_null (slice_get (streams ++ record { name = name; base = null_lsn } ∷ []) i) ≡ base_or_null (slice_get streams i)
got_with_null [] name zero = refl
got_with_null [] name (suc i) = refl
got_with_null (stream ∷ streams) name zero = refl
got_with_null (stream ∷ streams) name (suc i) = got_with_null streams name i

-- A new stream's base is null, as that of one that isn't there.
pub same_bases : (streams : List Stream) (name : List ℕ) (number : ℕ) → base_in (streams ++ record { name = name; base = null_lsn } ∷ []) number ≡ base_in streams number
same_bases streams name number = elim (cases_Bool (number == 0)) [
  | inl none ↦ rw none refl
  | inr some ↦ rw some (got_with_null streams name (number - 1))
]

-- first live LSNs by other bases that are the same
pub firsts_by : (firsts : List (Option ℕ)) (bases others : ℕ → ℕ) (heads : List Head) → ((i : ℕ) → others i ≡ bases i) → AreFirsts firsts bases heads → AreFirsts firsts others heads
firsts_by firsts bases others heads same are = record {
  rising = are.rising;
  streams = are.streams;
  each = λ stream some within.
      are.each stream some within
      ∙ ap (λ base. option_map (λ (head : Head). head.lsn) (slice_get (live_heads base stream heads) 0)) (sym (same stream));
}

pub heads_by : (low : ℕ) (streams others : List Stream) (heads : List Head) → ((i : ℕ) → base_in streams i ≤ base_in others i) → All (IsHead low streams) heads → All (IsHead low others) heads
heads_by low streams others heads up all =
    All-weaker (IsHead low streams) (IsHead low others)
    (λ head is. record {
      previous = is.previous;
      undo_next = is.undo_next;
      dead = λ below. let dead = is.dead below in let more = up head.stream in omega (arith, dead, more);
    }) heads all

-- no head is of the stream after the last
pub none_behind : (count : ℕ) (heads : List Head) → All (λ (head : Head). (1 ≤ head.stream) × (head.stream ≤ count)) heads → stream_heads (count + 1) heads ≡ []
none_behind count [] within = refl
none_behind count (head ∷ heads) within =
    let here = within 0 head (omega arith) in
    rw (ne_eqb head.stream (count + 1) (λ same. omega (arith, same, here.1)))
    (none_behind count heads (All-tail (λ (h : Head). (1 ≤ h.stream) × (h.stream ≤ count)) head heads within))

-- the rows with an empty one after them
pub row_added : (streams : List Stream) (name : List ℕ) (low : ℕ) (heads : List Head) (rows : List StreamRow) (row : StreamRow) (firsts : List (Option ℕ))
    → length rows ≡ length streams → length firsts ≡ length streams → AreFirsts firsts (base_in streams) heads
    → ((stream : ℕ) (d : StreamRow) → 1 ≤ stream → stream ≤ length streams → IsRow (base_in streams stream) low stream heads (get_or rows (stream - 1) d))
    → row.index.base ≡ null_lsn → row.restarts.base ≡ null_lsn → row.index.heads ≡ [] → row.restarts.heads ≡ []
    → (stream : ℕ) (d : StreamRow) → 1 ≤ stream → stream ≤ length (streams ++ record { name = name; base = null_lsn } ∷ [])
    → IsRow (base_in (streams ++ record { name = name; base = null_lsn } ∷ []) stream) low stream heads (get_or (rows ++ row ∷ []) (stream - 1) d)
row_added streams name low heads rows row firsts long firsts_long firsts_are are base restarts_base none no_restarts stream d some within =
    rw (same_bases streams name stream) (elim (cases_lt (length streams) stream) [
      | inr there ↦ rw (get_or_append_left rows (row ∷ []) d (stream - 1) (omega (arith, there, some, long))) (are stream d some there)
      | inl behind ↦
          let last : stream ≡ length streams + 1 = omega (arith, behind, within, length_push streams (record { name = name; base = null_lsn })) in
          let empty : stream_heads stream heads ≡ [] = ap (λ n. stream_heads n heads) (last ∙ ap (λ n. n + 1) (sym firsts_long)) ∙ none_behind (length firsts) heads firsts_are.streams in
          let no_base : base_in streams stream ≡ null_lsn = past streams stream (omega (arith, last)) in
          rw (get_or_push rows row d (stream - 1) (omega (arith, last, long)), no_base) (record {
            index_base = base;
            restarts_base = restarts_base;
            index = rw (empty, none) (none_kept low);
            restarts = rw (empty, no_restarts) (none_kept low);
          })
    ])
  where
    past : (streams : List Stream) (stream : ℕ) → length streams < stream → base_in streams stream ≡ null_lsn
    past streams stream less =
        let number : (stream == 0) ≡ false = ne_eqb stream 0 (λ none. omega (arith, none, less)) in
        rw number (ap base_or_null (slice_get_past streams (stream - 1) (omega (arith, less))))

-- ---- a record more

heads_of_own : (stream : ℕ) (heads : List Head) (head : Head) → head.stream ≡ stream → stream_heads stream (heads ++ head ∷ []) ≡ stream_heads stream heads ++ head ∷ []
heads_of_own stream heads head own = filter-append (λ (h : Head). h.stream == stream) heads (head ∷ []) ∙ rw (eq-eqb head.stream stream own) refl

heads_of_other : (stream : ℕ) (heads : List Head) (head : Head) → (head.stream ≡ stream → ⊥) → stream_heads stream (heads ++ head ∷ []) ≡ stream_heads stream heads
heads_of_other stream heads head other = filter-append (λ (h : Head). h.stream == stream) heads (head ∷ []) ∙ rw (ne_eqb head.stream stream other) (append-nil _)

-- what is kept of a stream's heads lies below a head that is above all
pub kept_below : (low stream lsn : ℕ) (heads kept : List Head) → IsKept low (stream_heads stream heads) kept → All (λ (other : Head). other.lsn < lsn) heads
    → All (λ (other : Head). other.lsn < lsn) kept
kept_below low stream lsn heads kept is above =
    rw is.is (All-drop (λ (other : Head). other.lsn < lsn) is.count (stream_heads stream heads) (All-filter (λ (h : Head). h.stream == stream) (λ (other : Head). other.lsn < lsn) heads above))

pub restarts_below : (low stream lsn : ℕ) (heads kept : List Head) → IsKept low (restarts_of (stream_heads stream heads)) kept → All (λ (other : Head). other.lsn < lsn) heads
    → All (λ (other : Head). other.lsn < lsn) kept
restarts_below low stream lsn heads kept is above =
    rw is.is (All-drop (λ (other : Head). other.lsn < lsn) is.count (restarts_of (stream_heads stream heads))
    (All-filter (λ (h : Head). is_restart h.kind) (λ (other : Head). other.lsn < lsn) (stream_heads stream heads)
    (All-filter (λ (h : Head). h.stream == stream) (λ (other : Head). other.lsn < lsn) heads above)))

-- the row of the record's stream, with the record after its others
pub row_with : (base low : ℕ) (heads : List Head) (head : Head) (old new : StreamRow) → low ≤ head.lsn → IsRow base low head.stream heads old
    → new.index.base ≡ old.index.base → new.restarts.base ≡ old.restarts.base
    → new.index.heads ≡ old.index.heads ++ head ∷ [] → new.restarts.heads ≡ old.restarts.heads ++ restarts_of (head ∷ [])
    → IsRow base low head.stream (heads ++ head ∷ []) new
row_with base low heads head old new above is same restarts_same joined restarts = record {
  index_base = same ∙ is.index_base;
  restarts_base = restarts_same ∙ is.restarts_base;
  index = rw (heads_of_own head.stream heads head refl, joined) (kept_with low (stream_heads head.stream heads) old.index.heads (head ∷ []) own is.index);
  restarts =
      rw (heads_of_own head.stream heads head refl, filter-append (λ (h : Head). is_restart h.kind) (stream_heads head.stream heads) (head ∷ []), restarts)
      (kept_with low (restarts_of (stream_heads head.stream heads)) old.restarts.heads (restarts_of (head ∷ []))
      (All-filter (λ (h : Head). is_restart h.kind) (λ (h : Head). low ≤ h.lsn) (head ∷ []) own) is.restarts);
}
  where
    own : All (λ (h : Head). low ≤ h.lsn) (head ∷ [])
    own = All-cons (λ (h : Head). low ≤ h.lsn) head [] above (λ k d inside. absurd (omega (arith, inside)))

pub rows_with : (streams : List Stream) (low : ℕ) (heads : List Head) (head : Head) (rows : List StreamRow) (row : StreamRow) → length rows ≡ length streams → IsNumber streams head.stream
    → ((stream : ℕ) (d : StreamRow) → 1 ≤ stream → stream ≤ length streams → IsRow (base_in streams stream) low stream heads (get_or rows (stream - 1) d))
    → IsRow (base_in streams head.stream) low head.stream (heads ++ head ∷ []) row
    → (stream : ℕ) (d : StreamRow) → 1 ≤ stream → stream ≤ length streams
    → IsRow (base_in streams stream) low stream (heads ++ head ∷ []) (get_or (set rows (head.stream - 1) row) (stream - 1) d)
rows_with streams low heads head rows row long number are is stream d some within = elim (cases_eq stream head.stream) [
  | inl own ↦ rw own (rw (get_or-set_same rows (head.stream - 1) row d (omega (arith, number.0, number.1, long))) is)
  | inr other ↦
      rw (get_or-set_other rows (head.stream - 1) (stream - 1) row d (λ same. other (omega (arith, same, some, number.0))))
      (let old = are stream d some within in
      let same = heads_of_other stream heads head (λ e. other (sym e)) in
      record { index_base = old.index_base; restarts_base = old.restarts_base; index = rw same old.index; restarts = rw same old.restarts })
]

-- ---- a base that moves

not_first : (i : ℕ) → (suc i + 1 == 1) ≡ false
not_first i = ne_eqb (suc i + 1) 1 (λ same. omega (arith, same))

one_less : (i : ℕ) → suc i + 1 - 1 ≡ i + 1
one_less i = omega arith

got_moved : (streams : List Stream) (i lsn : ℕ) → i < length streams → base_or_null (slice_get (set_base (i + 1) lsn streams) i) ≡ lsn
got_moved [] i lsn inside = absurd (omega (arith, inside))
got_moved (stream ∷ streams) zero lsn inside = refl
got_moved (stream ∷ streams) (suc i) lsn inside = rw (not_first i, one_less i) (got_moved streams i lsn (omega (arith, inside)))

got_other : (streams : List Stream) (i j lsn : ℕ) → (j ≡ i → ⊥) → base_or_null (slice_get (set_base (i + 1) lsn streams) j) ≡ base_or_null (slice_get streams j)
got_other [] i j lsn other = refl
got_other (stream ∷ streams) zero zero lsn other = absurd (other refl)
got_other (stream ∷ streams) zero (suc j) lsn other = refl
got_other (stream ∷ streams) (suc i) zero lsn other = rw (not_first i) refl
got_other (stream ∷ streams) (suc i) (suc j) lsn other = rw (not_first i, one_less i) (got_other streams i j lsn (λ same. other (ap suc same)))

moved_length : (streams : List Stream) (i lsn : ℕ) → length (set_base (i + 1) lsn streams) ≡ length streams
moved_length [] i lsn = refl
moved_length (stream ∷ streams) zero lsn = refl
moved_length (stream ∷ streams) (suc i) lsn = rw (not_first i, one_less i) (ap suc (moved_length streams i lsn))

-- as many streams as before
pub as_many : (streams : List Stream) (number lsn : ℕ) → 1 ≤ number → length (set_base number lsn streams) ≡ length streams
as_many streams number lsn some = let e : number ≡ number - 1 + 1 = omega (arith, some) in ap (λ n. length (set_base n lsn streams)) e ∙ moved_length streams (number - 1) lsn

-- the base of one stream after it has moved, and those of the others
pub moved_base : (streams : List Stream) (number lsn : ℕ) → 1 ≤ number → number ≤ length streams → base_in (set_base number lsn streams) number ≡ lsn
moved_base streams number lsn some within =
    let is : (number == 0) ≡ false = ne_eqb number 0 (λ none. omega (arith, none, some)) in
    let e : number ≡ number - 1 + 1 = omega (arith, some) in
    rw is (ap (λ n. base_or_null (slice_get (set_base n lsn streams) (number - 1))) e ∙ got_moved streams (number - 1) lsn (omega (arith, some, within)))

pub other_base : (streams : List Stream) (number lsn other : ℕ) → 1 ≤ number → (other ≡ number → ⊥) → base_in (set_base number lsn streams) other ≡ base_in streams other
other_base streams number lsn other some apart = elim (cases_Bool (other == 0)) [
  | inl none ↦ rw none refl
  | inr is ↦
      let e : number ≡ number - 1 + 1 = omega (arith, some) in
      let from_one : (other ≡ 0 → ⊥) = eqb-false other 0 is in
      let places : (other - 1 ≡ number - 1 → ⊥) = λ same. differ other number some from_one apart same in
      rw is (ap (λ n. base_or_null (slice_get (set_base n lsn streams) (other - 1))) e ∙ got_other streams (number - 1) (other - 1) lsn places)
]
  where
    differ : (other number : ℕ) → 1 ≤ number → (other ≡ 0 → ⊥) → (other ≡ number → ⊥) → other - 1 ≡ number - 1 → ⊥
    differ zero number some from_one apart same = from_one refl
    differ (suc other) number some from_one apart same = apart (omega (arith, same, some))

-- no base falls where one moves up
pub bases_rise : (streams : List Stream) (number lsn : ℕ) → 1 ≤ number → number ≤ length streams → base_in streams number ≤ lsn
    → (i : ℕ) → base_in streams i ≤ base_in (set_base number lsn streams) i
bases_rise streams number lsn some within up i = elim (cases_eq i number) [
  | inl own ↦ rw own (rw (moved_base streams number lsn some within) up)
  | inr other ↦ rw (other_base streams number lsn i some other) (omega arith)
]

-- the row of the stream, with its new base
pub row_moved : (base low lsn stream : ℕ) (heads : List Head) (old new : StreamRow) → IsRow base low stream heads old
    → new.index.base ≡ lsn → new.restarts.base ≡ lsn → new.index.heads ≡ old.index.heads → new.restarts.heads ≡ old.restarts.heads → IsRow lsn low stream heads new
row_moved base low lsn stream heads old new is at restarts_at same restarts_same = record {
  index_base = at;
  restarts_base = restarts_at;
  index = rw same is.index;
  restarts = rw restarts_same is.restarts;
}

pub rows_moved : (streams : List Stream) (number lsn low : ℕ) (heads : List Head) (rows : List StreamRow) (row : StreamRow) → length rows ≡ length streams → IsNumber streams number
    → ((stream : ℕ) (d : StreamRow) → 1 ≤ stream → stream ≤ length streams → IsRow (base_in streams stream) low stream heads (get_or rows (stream - 1) d))
    → IsRow lsn low number heads row
    → (stream : ℕ) (d : StreamRow) → 1 ≤ stream → stream ≤ length (set_base number lsn streams)
    → IsRow (base_in (set_base number lsn streams) stream) low stream heads (get_or (set rows (number - 1) row) (stream - 1) d)
rows_moved streams number lsn low heads rows row long there are is stream d some within = elim (cases_eq stream number) [
  | inl own ↦ rw own (rw (moved_base streams number lsn there.0 there.1, get_or-set_same rows (number - 1) row d (omega (arith, there.0, there.1, long))) is)
  | inr other ↦
      rw (other_base streams number lsn stream there.0 other, get_or-set_other rows (number - 1) (stream - 1) row d (λ same. other (omega (arith, same, some, there.0))))
      (are stream d some (omega (arith, within, as_many streams number lsn there.0)))
]

-- the first live LSN by what is kept
pub first_by_kept : (low lsn stream : ℕ) (streams : List Stream) (heads kept : List Head) (first : Option ℕ) → base_in streams stream ≤ lsn → All (IsHead low streams) heads
    → IsKept low (stream_heads stream heads) kept → first ≡ option_map (λ (head : Head). head.lsn) (slice_get (heads_from lsn kept) 0)
    → (others : ℕ → ℕ) → others stream ≡ lsn → first ≡ first_live others heads stream
first_by_kept low lsn stream streams heads kept first up all is at others base =
    let dead : All (IsDeadBelow low lsn) (stream_heads stream heads)
    = All-weaker (IsDeadBelow low (base_in streams stream)) (IsDeadBelow low lsn) (λ head dies below. (let dead = dies below in omega (arith, dead, up))) (stream_heads stream heads) (dead_in low streams stream heads all) in
    at ∙ ap (λ (hs : List Head). option_map (λ (head : Head). head.lsn) (slice_get hs 0)) (live_kept low lsn (stream_heads stream heads) kept is dead)
    ∙ ap (λ b. option_map (λ (head : Head). head.lsn) (slice_get (live_heads b stream heads) 0)) (sym base)

-- ---- heads that are forgotten

-- Of a row heads below an LSN were forgotten.
pub record Forgets (lsn : ℕ) (old new : StreamRow) : Type 0 where
  pub index_base : new.index.base ≡ old.index.base
  pub restarts_base : new.restarts.base ≡ old.restarts.base
  pub index : IsKept lsn old.index.heads new.index.heads
  pub restarts : IsKept lsn old.restarts.heads new.restarts.heads
  pub room : min old.index.room old.restarts.room ≤ min new.index.room new.restarts.room

-- a row of which more is forgotten
pub row_less : (base low lsn stream : ℕ) (heads : List Head) (old new : StreamRow) → low ≤ lsn → IsRow base low stream heads old → Forgets lsn old new → IsRow base lsn stream heads new
row_less base low lsn stream heads old new up is less = record {
  index_base = less.index_base ∙ is.index_base;
  restarts_base = less.restarts_base ∙ is.restarts_base;
  index = kept_further low lsn (stream_heads stream heads) old.index.heads new.index.heads up is.index less.index;
  restarts = kept_further low lsn (restarts_of (stream_heads stream heads)) old.restarts.heads new.restarts.heads up is.restarts less.restarts;
}

-- ---- room in the rows

-- for how many records more there is memory in a row
abbrev row_room : StreamRow → ℕ
row_room row = min row.index.room row.restarts.room

-- the room is the same where a row has as much as before
pub room_same : (rows : List StreamRow) (i : ℕ) (old new : StreamRow) → old ≡ get_or rows i old → new.index.room ≡ old.index.room → new.restarts.room ≡ old.restarts.room
    → room_in (set rows i new) ≡ room_in rows
room_same rows i old new read index restarts =
    let same : row_room new ≡ row_room old = rw (index, restarts) refl in
    map-set row_room rows i new ∙ ap (set (room_in rows) i) same ∙ sym (map-set row_room rows i old) ∙ ap room_in (ap (set rows i) read ∙ set-get_or rows i old)

-- the room of a row that was changed
pub room_there : (rows : List StreamRow) (i : ℕ) (row : StreamRow) → i < length rows → 1 ≤ row.index.room → 1 ≤ row.restarts.room → 1 ≤ slice_index (room_in (set rows i row)) i
room_there rows i row inside index restarts =
    let at : slice_index (room_in (set rows i row)) i ≡ row_room row
    = ap (λ ns. slice_index ns i) (map-set row_room rows i row) ∙ get_or-set_same (room_in rows) i (row_room row) 0 (omega (arith, inside, length-map rows row_room)) in
    rw at (omega (arith, index, restarts))

-- no row has less room where each has as much as before
pub rooms_kept : (old new : List StreamRow) → length new ≡ length old
    → ((k : ℕ) (d : StreamRow) → k < length old → row_room (get_or old k d) ≤ row_room (get_or new k d))
    → (i : ℕ) → slice_index (room_in old) i ≤ slice_index (room_in new) i
rooms_kept [] new long each i = omega arith
rooms_kept (row ∷ old) [] long each i = absurd (omega (arith, long))
rooms_kept (row ∷ old) (other ∷ new) long each zero = each 0 row (omega arith)
rooms_kept (row ∷ old) (other ∷ new) long each (suc i) =
    rooms_kept old new (omega (arith, long)) (λ k d inside. each (suc k) d (omega (arith, inside))) i

-- what follows where a call succeeded
pub on_ok : {T E P Q : Type 0} (result : Result T E) → (P → Q) → OnOk result P → OnOk result Q
on_ok (Ok value) weaker is = weaker is
on_ok (Err refusal) weaker is = is
