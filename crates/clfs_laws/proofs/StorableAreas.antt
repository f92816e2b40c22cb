-- New streams, areas and cursors are within their limits, and so are cursors that move and areas and cursors that end.
use Rattle.clfs_laws.proofs.Words.{◌≡◌, ℕ, zero, suc, ◌+◌, ◌<◌, ◌≤◌, Bool, true, refl, sym, ap, ◌∙◌, subst, inl, inr, arith, List, [], ◌∷◌, ◌++◌, length}
use Rattle.clfs_laws.proofs.Words.{length-append, Option, Some, None, All, find, filter, map, not, nat_le, is_none, ◌==◌, ◌&&◌, unwrap_or, range_with_len}
use Rattle.clfs_laws.proofs.Words.{option_map_or, cases_Bool, eqb-true, leb-false, and_parts, append-nil, length-map, All-weaker, All-push, All-filter}
use Rattle.clfs_laws.proofs.Words.{All-from_recursion, recursion_from_All, filter-append, most_streams, null_lsn, longest, LogEntry, State, Area, Cursor}
use Rattle.clfs_laws.proofs.Words.{CursorKind, Stream, IsClient, stream_at, is_area, area_of, areas_of, change_area, least_unused, next_of_cursor}
use Rattle.clfs_laws.proofs.Words.{record_cursor, restart_cursor, with_cursor, with_cursor_at, without_cursor, unused_cursor, is_over_restarts, name_fault}
use Rattle.clfs_laws.proofs.Words.{stream_number, open_refusal, create_refusal, refused_if, too_long, too_many_cursors, outcome, opened, new_area}
use Rattle.clfs_laws.proofs.Words.{found_with_cursor, moved_on, IsCursor, IsAreaWithinLimits, IsWithinLimits, IsValid, IsArea}
use Rattle.clfs_model.specs.declared.refusal.Refusal.TheVariants as refusals
use Rattle.clfs_model.specs.declared.reply.Reply.TheVariants as replies
use Rattle.clfs_lsn.specs.Cursors.{is_cursor_number}
use Rattle.clfs_laws.proofs.Among.{IsAmong, found}
use Rattle.clfs_laws.proofs.CursorSteps.{moved_if}
use Rattle.clfs_laws.proofs.NotRefused.{passed, passed_option, passed_long, second_false}
use Rattle.clfs_laws.proofs.RowChanges.{area_named}
use Rattle.clfs_laws.proofs.StorableCursors.{IsRead, cursor_at_read, cursor_kept, cursors_moved, read_on_by}
use Rattle.clfs_laws.proofs.StorableLimits.{area_kept, alike_itself, limits_found}
use Rattle.clfs_laws.proofs.ValidAreaCalls.{none_of_option, its_area}

-- areas of a state with the same records
areas_in : (s t : State) (areas : List Area) → t.records ≡ s.records → All (IsAreaWithinLimits s) areas → All (IsAreaWithinLimits t) areas
areas_in s t areas records all =
    All-weaker (IsAreaWithinLimits s) (IsAreaWithinLimits t)
    (λ area is. area_kept s t area area [] (records ∙ sym (append-nil s.records)) (alike_itself area) is) areas all

-- a stream of a new name
opened_by : (s : State) (name : List ℕ) (number : Option ℕ) → stream_number s name ≡ number → open_refusal s name ≡ None → IsWithinLimits s
    → IsWithinLimits (option_map_or (λ n. outcome (replies.Stream n) s) number
    (outcome (replies.Stream (length s.streams + 1)) (record s { streams = s.streams ++ record { name = name; base = null_lsn } ∷ [] }))).state
opened_by s name (Some number) is none limits = limits
opened_by s name None is none limits =
    let new : Stream = record { name = name; base = null_lsn } in
    let t : State = record s { streams = s.streams ++ new ∷ [] } in
    let limit = refused_if (is_none (stream_number s name) && nat_le most_streams (length s.streams)) (refusals.StreamLimit (length s.streams)) None in
    let single = is_none (stream_number s name) && (s.dedicated && nat_le 1 (length s.streams)) in
    let legal = none_of_option (name_fault name) (λ at. refusals.NameInvalid at) (refused_if single refusals.Dedicated limit) none in
    let rest = passed_option (name_fault name) (λ at. refusals.NameInvalid at) (refused_if single refusals.Dedicated limit) none in
    let last = (passed single refusals.Dedicated limit rest).1 in
    let test = (passed (is_none (stream_number s name) && nat_le most_streams (length s.streams)) (refusals.StreamLimit (length s.streams)) None last).0 in
    let few : length s.streams < most_streams = leb-false most_streams (length s.streams) (second_false _ _ (ap is_none is) test) in
    record {
      names = All-push (λ (stream : Stream). name_fault stream.name ≡ None) s.streams new limits.names legal;
      few_streams = omega (arith, few, length-append s.streams (new ∷ []));
      few_areas = limits.few_areas;
      areas = areas_in s t s.areas refl limits.areas;
    }

pub limits_opened : (s : State) (name : List ℕ) → open_refusal s name ≡ None → IsWithinLimits s → IsWithinLimits (opened s name).state
limits_opened s name none limits = opened_by s name (stream_number s name) refl none limits

-- a new number is one of the first, or the one after them
in_range : (p : ℕ → Bool) (start count number : ℕ) → find p (range_with_len start count) ≡ Some number → (start ≤ number) × (number < start + count)
in_range p start zero number is = absurd (cc)
in_range p start (suc count) number is = elim (cases_Bool (p start)) [
  | inl here ↦ let at = rw here at is in let same : start ≡ number = cc in (omega (arith, same), omega (arith, same))
  | inr there ↦ let rest = in_range p (start + 1) count number (rw there at is) in (omega (arith, rest.0), omega (arith, rest.1))
]

-- by what the search for an unused number finds
least_by : (count : ℕ) (p : ℕ → Bool) (number : Option ℕ) → find p (range_with_len 1 count) ≡ number
    → (1 ≤ unwrap_or number (count + 1)) × (unwrap_or number (count + 1) ≤ count + 1)
least_by count p None is = (omega arith, omega arith)
least_by count p (Some number) is = let range = in_range p 1 count number is in (range.0, omega (arith, range.1))

-- the least unused number is at least 1 and at most one above the count
pub least_range : (count : ℕ) (used : ℕ → Bool) → (1 ≤ least_unused count used) × (least_unused count used ≤ count + 1)
least_range count used = least_by count (λ number. not (used number)) (find (λ number. not (used number)) (range_with_len 1 count)) refl

-- the areas of a client, with one more
more_of : (client : ℕ) (areas : List Area) (new : Area) → (new.client ≡ client → length (filter (λ (area : Area). area.client == client) areas) < 16)
    → length (filter (λ (area : Area). area.client == client) areas) ≤ 16
    → length (filter (λ (area : Area). area.client == client) (areas ++ new ∷ [])) ≤ 16
more_of client areas new few all =
    let q : Area → Bool = λ area. area.client == client in
    let count : length (filter q (areas ++ new ∷ [])) ≡ length (filter q areas) + length (filter q (new ∷ [])) =
    ap length (filter-append q areas (new ∷ [])) ∙ length-append (filter q areas) (filter q (new ∷ [])) in
    elim (cases_Bool (new.client == client)) [
      | inl mine ↦
          let less = few (eqb-true new.client client mine) in
          let one : length (filter q (new ∷ [])) ≡ 1 = rw mine refl in
          omega (arith, less, one, count)
      | inr other ↦ let none : length (filter q (new ∷ [])) ≡ 0 = rw other refl in omega (arith, all, none, count)
    ]

-- a new area
pub limits_created : (s : State) (client stream largest reads : ℕ) → create_refusal s client stream largest ≡ None → IsClient client → 1 ≤ reads
    → reads ≤ 16
    → IsWithinLimits s → IsWithinLimits (record s { areas = s.areas ++ new_area s client stream largest reads ∷ [] })
limits_created s client stream largest reads none is some few limits =
    let new = new_area s client stream largest reads in
    let t : State = record s { areas = s.areas ++ new ∷ [] } in
    let limit = refused_if (nat_le 16 (length (areas_of s client))) (refusals.AreaLimit (length (areas_of s client))) None in
    let there = passed (is_none (stream_at s stream)) refusals.NoSuchStream (too_long (longest s.shape) (largest ∷ []) limit) none in
    let last = passed_long (longest s.shape) (largest ∷ []) limit there.1 in
    let less : length (areas_of s client) < 16 =
    leb-false 16 (length (areas_of s client)) (passed (nat_le 16 (length (areas_of s client))) (refusals.AreaLimit (length (areas_of s client))) None last).0 in
    let range = least_range (length (areas_of s client)) _ in
    record {
      names = limits.names;
      few_streams = limits.few_streams;
      few_areas = λ of.
          let F : ℕ → Type 0 = λ c. length (filter (λ (area : Area). area.client == c) s.areas) < 16 in
          more_of of s.areas new (λ same. subst F same less) (limits.few_areas of);
      areas = All-push (IsAreaWithinLimits t) s.areas new (areas_in s t s.areas refl limits.areas) (record {
        client = is;
        some_number = range.0;
        number = omega (arith, range.1, less);
        some_reads = some;
        reads = few;
        few_cursors = omega arith;
        cursors = All-from_recursion (IsCursor t new) [] tt;
      });
    }

-- no more pass two tests than one
passing_both : (q r : Area → Bool) (areas : List Area) → length (filter q (filter r areas)) ≤ length (filter q areas)
passing_both q r [] = omega arith
passing_both q r (area ∷ areas) = let rest = passing_both q r areas in elim (cases_Bool (r area)) [
  | inl kept ↦ elim (cases_Bool (q area)) [
    | inl passes ↦ rw (kept, passes) (omega (arith, rest))
    | inr fails ↦ rw (kept, fails) rest
  ]
  | inr gone ↦ elim (cases_Bool (q area)) [
    | inl passes ↦ rw (gone, passes) (omega (arith, rest))
    | inr fails ↦ rw (gone, fails) rest
  ]
]

-- an area that ends
pub limits_deleted : (s : State) (p : Area → Bool) → IsWithinLimits s → IsWithinLimits (record s { areas = filter p s.areas })
limits_deleted s p limits = let t : State = record s { areas = filter p s.areas } in record {
  names = limits.names;
  few_streams = limits.few_streams;
  few_areas = λ client. let fewer = passing_both (λ area. area.client == client) p s.areas in omega (arith, fewer, limits.few_areas client);
  areas = areas_in s t (filter p s.areas) refl (All-filter p (IsAreaWithinLimits s) s.areas limits.areas);
}

-- a change of the area that a call names
limits_of_area : (s : State) (client number : ℕ) (area : Area) (change : Area → Area) → area_of s client number ≡ Some area
    → ((a : Area) → (change a).client ≡ a.client) → (IsAreaWithinLimits s area → IsAreaWithinLimits s (change area))
    → IsWithinLimits s → IsWithinLimits (change_area change area.client area.number s)
limits_of_area s client number area change there keeps changes limits =
    let name = area_named client number s.areas area there in
    let found_so : area_of s area.client area.number ≡ Some area =
    ap (λ (c : ℕ). area_of s c area.number) name.0 ∙ ap (λ (n : ℕ). area_of s client n) name.1 ∙ there in
    let F : Area → Type 0 = λ a. IsAreaWithinLimits s a → IsAreaWithinLimits s (change a) in
    limits_found s (is_area area.client area.number) change keeps (λ other is. let same : area ≡ other = cc (is, found_so) in subst F same changes) limits

-- an area with a new cursor at a record that was read
with_new_cursor : (s : State) (area : Area) (kind : CursorKind) (entry : LogEntry) → IsValid s → too_many_cursors area ≡ None
    → IsRead s area.stream kind entry
    → IsAreaWithinLimits s area
    → IsAreaWithinLimits s (with_cursor (record { number = unused_cursor area.cursors; kind = kind; last = entry.lsn }) area)
with_new_cursor s area kind entry valid none read is =
    let new : Cursor = record { number = unused_cursor area.cursors; kind = kind; last = entry.lsn } in
    let b : Area = with_cursor new area in
    let less : length area.cursors < area.reads =
    leb-false area.reads (length area.cursors) (passed (nat_le area.reads (length area.cursors)) (refusals.CursorLimit (length area.cursors)) None none).0 in
    let range = least_range (length area.cursors) (is_cursor_number area.cursors) in
    record {
      client = is.client;
      some_number = is.some_number;
      number = is.number;
      some_reads = is.some_reads;
      reads = is.reads;
      few_cursors = omega (arith, less, length-append area.cursors (new ∷ []));
      cursors = All-push (IsCursor s b) area.cursors new
          (All-weaker (IsCursor s area) (IsCursor s b) (λ cursor has. cursor_kept s s area b []
          (sym (append-nil s.records)) refl refl cursor has) area.cursors is.cursors)
          (cursor_at_read s b (unused_cursor area.cursors) kind entry valid range.0 (omega (arith, range.1, less)) read);
    }

-- a record that was read, with a new cursor at it
pub limits_found_with : (s : State) (client number : ℕ) (area : Area) (kind : CursorKind) (entry : LogEntry) → IsValid s
    → area_of s client number ≡ Some area
    → too_many_cursors area ≡ None → IsRead s area.stream kind entry → IsWithinLimits s → IsWithinLimits (found_with_cursor s area kind entry).state
limits_found_with s client number area kind entry valid there none read limits =
    let change : Area → Area = with_cursor (record { number = unused_cursor area.cursors; kind = kind; last = entry.lsn }) in
    limits_of_area s client number area change there (λ a. refl) (with_new_cursor s area kind entry valid none read) limits

-- an area whose cursor has moved to the record that it comes to
with_moved_cursor : (s : State) (area : Area) (cursor : ℕ) (at : Cursor) (entry : LogEntry) → IsValid s → IsArea s area → IsAmong at area.cursors
    → at.number ≡ cursor
    → next_of_cursor s area at ≡ Some entry → IsAreaWithinLimits s area → IsAreaWithinLimits s (with_cursor_at cursor entry.lsn area)
with_moved_cursor s area cursor at entry valid fits among named leads is =
    let b : Area = with_cursor_at cursor entry.lsn area in
    let moved : List Cursor = map (moved_if cursor entry.lsn) area.cursors in
    let all =
    cursors_moved s area cursor at entry valid fits.cursors among named (read_on_by s area at entry leads)
    (recursion_from_All (IsCursor s area) area.cursors is.cursors) in
    record {
      client = is.client;
      some_number = is.some_number;
      number = is.number;
      some_reads = is.some_reads;
      reads = is.reads;
      few_cursors = let count = length-map area.cursors (moved_if cursor entry.lsn) in omega (arith, is.few_cursors, count);
      cursors = All-weaker (IsCursor s area) (IsCursor s b) (λ c has. cursor_kept s s area b [] (sym (append-nil s.records)) refl refl c has) moved
          (All-from_recursion (IsCursor s area) moved all);
    }

-- a cursor that moves, or is at its end
moved_by : (s : State) (client number cursor : ℕ) (area : Area) (at : Cursor) (entry : Option LogEntry) → IsValid s
    → area_of s client number ≡ Some area
    → IsAmong at area.cursors → at.number ≡ cursor → next_of_cursor s area at ≡ entry → IsWithinLimits s
    → IsWithinLimits (option_map_or (λ (e : LogEntry). outcome (replies.Next e) (change_area (with_cursor_at cursor e.lsn) area.client area.number s)) entry
    (outcome (replies.Refused refusals.NoSuchCursor) s)).state
moved_by s client number cursor area at None valid there among named leads limits = limits
moved_by s client number cursor area at (Some entry) valid there among named leads limits =
    limits_of_area s client number area (with_cursor_at cursor entry.lsn) there (λ a. refl)
    (with_moved_cursor s area cursor at entry valid (its_area s client number area there valid) among named leads) limits

-- the same by the search that finds the cursor
moved_found : (s : State) (client number cursor : ℕ) (area : Area) (p : Cursor → Bool) (at : Option Cursor) → IsValid s
    → area_of s client number ≡ Some area
    → find p area.cursors ≡ at → ((c : Cursor) → p c ≡ true → c.number ≡ cursor) → IsWithinLimits s → IsWithinLimits (moved_on s area cursor at).state
moved_found s client number cursor area p None valid there is named limits = limits
moved_found s client number cursor area p (Some at) valid there is named limits =
    let f = found p area.cursors at is in
    moved_by s client number cursor area at (next_of_cursor s area at) valid there f.among (named at f.passes) refl limits

-- reading on with a cursor over records
pub limits_moved : (s : State) (client number cursor : ℕ) (area : Area) → IsValid s → area_of s client number ≡ Some area → IsWithinLimits s
    → IsWithinLimits (moved_on s area cursor (record_cursor area cursor)).state
limits_moved s client number cursor area valid there limits =
    moved_found s client number cursor area (λ (c : Cursor). (c.number == cursor) && not (is_over_restarts c.kind)) (record_cursor area cursor) valid there refl
    (λ c is. eqb-true c.number cursor (and_parts (c.number == cursor) (not (is_over_restarts c.kind)) is).0) limits

-- and with one over restart areas
pub limits_moved_back : (s : State) (client number cursor : ℕ) (area : Area) → IsValid s → area_of s client number ≡ Some area → IsWithinLimits s
    → IsWithinLimits (moved_on s area cursor (restart_cursor area cursor)).state
limits_moved_back s client number cursor area valid there limits =
    moved_found s client number cursor area (λ (c : Cursor). (c.number == cursor) && is_over_restarts c.kind) (restart_cursor area cursor) valid there refl
    (λ c is. eqb-true c.number cursor (and_parts (c.number == cursor) (is_over_restarts c.kind) is).0) limits

fewer_cursors : (p : Cursor → Bool) (cursors : List Cursor) → length (filter p cursors) ≤ length cursors
fewer_cursors p [] = omega arith
fewer_cursors p (cursor ∷ cursors) = let rest = fewer_cursors p cursors in elim (cases_Bool (p cursor)) [
  | inl kept ↦ rw kept (omega (arith, rest))
  | inr gone ↦ rw gone (omega (arith, rest))
]

-- a cursor that ends
pub limits_ended : (s : State) (client number cursor : ℕ) → IsWithinLimits s → IsWithinLimits (change_area (without_cursor cursor) client number s)
limits_ended s client number cursor limits =
    let p : Cursor → Bool = λ c. not (c.number == cursor) in
    limits_found s (is_area client number) (without_cursor cursor) (λ area. refl)
    (λ area there is. let b : Area = without_cursor cursor area in record {
      client = is.client;
      some_number = is.some_number;
      number = is.number;
      some_reads = is.some_reads;
      reads = is.reads;
      few_cursors = let fewer = fewer_cursors p area.cursors in omega (arith, is.few_cursors, fewer);
      cursors =
          All-weaker (IsCursor s area) (IsCursor s b) (λ c has. cursor_kept s s area b [] (sym (append-nil s.records)) refl refl c has) (filter p area.cursors)
          (All-filter p (IsCursor s area) area.cursors is.cursors);
    }) limits
