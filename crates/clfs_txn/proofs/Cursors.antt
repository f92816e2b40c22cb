-- Where a cursor over records is: after the read that made it, after it went on, and after an append.
use Rattle.clfs_txn.proofs.Words.{◌≡◌, ◌≢◌, ℕ, suc, ◌+◌, Bool, true, false, refl, sym, ap, ◌∙◌, inl, inr, List, [], ◌∷◌, ◌++◌, length, arith, subst, IfOk}
use Rattle.clfs_txn.proofs.Words.{find, not, ◌&&◌, ◌==◌, nat_lt, AllByRecursion, option_map, option_map_or, cases_Bool, eqb-true, eq-eqb, recursion_from_All}
use Rattle.clfs_txn.proofs.Words.{own, Cursor, Records, Mode, LogEntry, Draft, Refusal, Happened, Area, State, Outcome, answer, outcome, flushed, happened_of}
use Rattle.clfs_txn.proofs.Words.{Steps, live, live_at, appended, next_lsn, plain_record, with_less_held, next, record_cursor, refusal, area_of, change_first}
use Rattle.clfs_txn.proofs.Words.{is_area, Step, Comes, IsValid, IsAt}
use Rattle.std.specs.Prelude.{Option, Some, None, Result, Ok, Err, AllPairs, map, if◌then◌else◌, slice_index_or}
use Rattle.std.proofs.lemmas.Bool.{and_parts}
use Rattle.std.proofs.lemmas.List.{get_or_push, length_push}
use Rattle.clfs_lsn.specs.Cursors.{is_over_restarts, unused_cursor}
use Rattle.clfs_lsn.specs.Place.{joins, begins_here}
use Rattle.clfs_model.specs.declared.call.Call.TheVariants as calls
use Rattle.clfs_model.specs.declared.refusal.Refusal.TheVariants as refusals
use Rattle.clfs_model.specs.declared.reply.Reply.TheVariants as replies
use Rattle.clfs_model.specs.Answers.{read_at, found_with_cursor, moved_on}
use Rattle.clfs_model.specs.Flush.{flush, seal}
use Rattle.clfs_model.specs.Put.{flush_if, put}
use Rattle.clfs_model.specs.Reading.{next_of_cursor, with_cursor, with_cursor_at}
use Rattle.clfs_model.specs.Refusals.{next_refusal, read_refusal}
use Rattle.clfs_model.specs.Space.{grown, grown_if, reserved}
use Rattle.clfs_model.specs.State.{change_area}
use Rattle.clfs_model.specs.Valid.{IsArea}
use Rattle.clfs_txn.proofs.Answered.{answered, area_there, record_there, found_is, next_is}

-- ---- what is found passes, and is one of those among which it is searched

pub found_passes : {X : Type 0} (p : X → Bool) (xs : List X) (x : X) → find p xs ≡ Some x → p x ≡ true
found_passes p [] x e = absurd (cc e)
found_passes {X = X} p (a ∷ xs) x e = elim (cases_Bool (p a)) [
  | inl passes ↦ let here : Some a ≡ Some x = rw passes at e in let same : a ≡ x = cc here in ap p (sym same) ∙ passes
  | inr fails ↦ let later : find p xs ≡ Some x = rw fails at e in found_passes p xs x later
]

pub found_has : {X : Type 0} (P : X → Type 0) (p : X → Bool) (xs : List X) (x : X) → find p xs ≡ Some x → AllByRecursion P xs → P x
found_has P p [] x e all = absurd (cc e)
found_has {X = X} P p (a ∷ xs) x e all = elim (cases_Bool (p a)) [
  | inl passes ↦ let here : Some a ≡ Some x = rw passes at e in let same : a ≡ x = cc here in subst P same all.0
  | inr fails ↦ let later : find p xs ≡ Some x = rw fails at e in found_has P p xs x later all.1
]

-- ---- an area that a call changed

-- a change that leaves an area's client and number
pub record KeepsName (change : Area → Area) : Type 0 where
  pub client : (area : Area) → (change area).client ≡ area.client
  pub number : (area : Area) → (change area).number ≡ area.number

find_changed : (change : Area → Area) → KeepsName change → (client number : ℕ) (areas : List Area)
    → find (is_area client number) (change_first (is_area client number) change areas) ≡ option_map change (find (is_area client number) areas)
find_changed change keeps client number [] = refl
find_changed change keeps client number (area ∷ areas) = elim (cases_Bool (is_area client number area)) [
  | inl here ↦
      let named : is_area client number (change area) ≡ true = rw (keeps.client area, keeps.number area) here in rw (here, named) refl
  | inr there ↦ rw (there) (rw there (find_changed change keeps client number areas))
]

-- it is found changed
pub changed_area : (areas : List Area) (client number : ℕ) (area : Area) (change : Area → Area) → KeepsName change → find (is_area client number) areas ≡ Some area
    → find (is_area client number) (change_first (is_area area.client area.number) change areas) ≡ Some (change area)
changed_area areas client number area change keeps is =
    let names = and_parts (area.client == client) (area.number == number) (found_passes (is_area client number) areas area is) in
    ap (λ (c : ℕ). find (is_area client number) (change_first (is_area c area.number) change areas)) (eqb-true area.client client names.0)
    ∙ ap (λ (n : ℕ). find (is_area client number) (change_first (is_area client n) change areas)) (eqb-true area.number number names.1)
    ∙ find_changed change keeps client number areas ∙ ap (λ (o : Option Area). option_map change o) is

-- ---- the last of cursors with different numbers

abbrev is_record_cursor : ℕ → Cursor → Bool
is_record_cursor number cursor = (cursor.number == number) && not (is_over_restarts cursor.kind)

abbrev Differ : Cursor → Cursor → Type 0
Differ a b = a.number ≢ b.number

last_found : (cursors : List Cursor) (at : Cursor) → is_record_cursor at.number at ≡ true → AllPairs Differ (cursors ++ at ∷ [])
    → find (is_record_cursor at.number) (cursors ++ at ∷ []) ≡ Some at
last_found [] at passes pairs = rw passes refl
last_found (first ∷ cursors) at passes pairs = elim (cases_Bool (is_record_cursor at.number first)) [
  | inl here ↦
      let same : first.number ≡ at.number = eqb-true first.number at.number (and_parts (first.number == at.number) (not (is_over_restarts first.kind)) here).0 in
      let long : length (cursors ++ at ∷ []) ≡ length cursors + 1 = length_push cursors at in
      let differ : first.number ≢ (slice_index_or (cursors ++ at ∷ []) (length cursors) at).number
      = pairs 0 (suc (length cursors)) at (omega arith) (omega (arith, long)) in
      let last : slice_index_or (cursors ++ at ∷ []) (length cursors) at ≡ at = get_or_push cursors at at (length cursors) refl in
      absurd (differ (same ∙ ap (λ (c : Cursor). c.number) (sym last)))
  | inr there ↦ rw there (last_found cursors at passes (λ i j d below inside. pairs (suc i) (suc j) d (omega (arith, below)) (omega (arith, inside))))
]

number_passes : (number lsn : ℕ) (mode : Mode) → is_record_cursor number (record { number = number; kind = Records mode; last = lsn }) ≡ true
number_passes number lsn mode = rw (eq-eqb number number refl) refl

its_cursors : (t : State) (client number : ℕ) (area : Area) → IsValid t → area_of t client number ≡ Some area → AllPairs Differ area.cursors
its_cursors t client number area valid is =
    (found_has (IsArea t) (is_area client number) t.areas area is (recursion_from_All (IsArea t) t.areas valid.tables.areas)).cursors

-- a cursor that a read made
made_at : (s t : State) (client number cursor : ℕ) (mode : Mode) (area : Area) (lsn : ℕ) → IsValid t → area_of s client number ≡ Some area
    → t ≡ change_area (with_cursor (record { number = cursor; kind = Records mode; last = lsn })) area.client area.number s
    → IsAt t client number cursor mode lsn
made_at s t client number cursor mode area lsn valid is left =
    let at : Cursor = record { number = cursor; kind = Records mode; last = lsn } in
    let change : Area → Area = with_cursor at in
    let there : area_of t client number ≡ Some (change area)
    = ap (λ (x : State). area_of x client number) left
    ∙ changed_area s.areas client number area change (record { client = λ a. refl; number = λ a. refl }) is in
    record {
      area = change area;
      there = there;
      on = last_found area.cursors at (number_passes cursor lsn mode) (its_cursors t client number (change area) valid there);
    }

-- the live record at an LSN has it
lsn_of : (s : State) (stream lsn : ℕ) (entry : LogEntry) → live_at s stream lsn ≡ Some entry → entry.lsn ≡ lsn
lsn_of s stream lsn entry is = eqb-true entry.lsn lsn (found_passes (λ (e : LogEntry). e.lsn == lsn) (live s stream) entry is)

-- ---- reading from a record on

pub read_there : (told : Bool) (s : State) (client number lsn : ℕ) (mode : Mode) (happened : Happened) (cursor : ℕ) (read : LogEntry) (t : State) → s.broken ≡ false
    → IsValid t → Step told s client (calls.Read number lsn mode) happened (replies.Found cursor read) t
    → (read.lsn ≡ lsn) × IsAt t client number cursor mode lsn
read_there told s client number lsn mode happened cursor read t whole valid step =
    let parts = answered told s client (calls.Read number lsn mode) happened (replies.Found cursor read) t whole refl step in
    let place = area_there (area_of s client number) (λ (area : Area). read_refusal s area lsn) parts.0 in
    let area : Area = place.0 in
    let record_is = record_there (live_at s area.stream lsn) (refusals.RecordNonexistent lsn) _ place.2 in
    let entry : LogEntry = record_is.0 in
    let outcome_is : answer s client (calls.Read number lsn mode) ≡ found_with_cursor s area (Records mode) entry
    = ap (λ (o : Option Area). option_map_or (λ (a : Area). read_at s a lsn mode) o (outcome (replies.Refused refusals.NoSuchArea) s)) place.1
    ∙ ap (λ (o : Option LogEntry). option_map_or (found_with_cursor s area (Records mode)) o (outcome (replies.Refused (refusals.RecordNonexistent lsn)) s)) record_is.1 in
    let comes : Comes told (flushed s) (found_with_cursor s area (Records mode) entry) (replies.Found cursor read) t
    = subst (λ (o : Outcome). Comes told (flushed s) o (replies.Found cursor read) t) outcome_is parts.1 in
    let found = found_is told (flushed s) (unused_cursor area.cursors) cursor entry read comes.0 in
    let at : entry.lsn ≡ lsn = lsn_of s area.stream lsn entry record_is.1 in
    let left : t ≡ change_area (with_cursor (record { number = cursor; kind = Records mode; last = lsn })) area.client area.number s
    = comes.1
    ∙ ap (λ (n : ℕ). change_area (with_cursor (record { number = n; kind = Records mode; last = entry.lsn })) area.client area.number s) (sym found.0)
    ∙ ap (λ (l : ℕ). change_area (with_cursor (record { number = cursor; kind = Records mode; last = l })) area.client area.number s) at in
    (found.1 ∙ at, made_at s t client number cursor mode area lsn valid place.1 left)

-- a client that read has the area
pub area_read : (told : Bool) (s : State) (client number lsn : ℕ) (mode : Mode) (happened : Happened) (cursor : ℕ) (read : LogEntry) (t : State) → s.broken ≡ false
    → Step told s client (calls.Read number lsn mode) happened (replies.Found cursor read) t → (area : Area) × (area_of s client number ≡ Some area)
area_read told s client number lsn mode happened cursor read t whole step =
    let parts = answered told s client (calls.Read number lsn mode) happened (replies.Found cursor read) t whole refl step in
    let place = area_there (area_of s client number) (λ (area : Area). read_refusal s area lsn) parts.0 in (place.0, place.1)

-- ---- reading on

abbrev moved_if : ℕ → ℕ → Cursor → Cursor
moved_if number lsn cursor = if cursor.number == number then record cursor { last = lsn } else cursor

moved_found : (number lsn before : ℕ) (mode : Mode) (cursors : List Cursor)
    → find (is_record_cursor number) cursors ≡ Some (record { number = number; kind = Records mode; last = before })
    → find (is_record_cursor number) (map (moved_if number lsn) cursors) ≡ Some (record { number = number; kind = Records mode; last = lsn })
moved_found number lsn before mode [] is = absurd (cc is)
moved_found number lsn before mode (cursor ∷ cursors) is = elim (cases_Bool (is_record_cursor number cursor)) [
  | inl here ↦
      let found : Some cursor ≡ Some (record { number = number; kind = Records mode; last = before }) = rw here at is in
      let same : cursor ≡ record { number = number; kind = Records mode; last = before } = cc found in
      rw same (rw (eq-eqb number number refl) (rw (number_passes number lsn mode) refl))
  | inr there ↦
      let later : find (is_record_cursor number) cursors ≡ Some (record { number = number; kind = Records mode; last = before }) = rw there at is in
      elim (cases_Bool (cursor.number == number)) [
        | inl named ↦ let moved : is_record_cursor number (moved_if number lsn cursor) ≡ false = rw named there in rw moved (moved_found number lsn before mode cursors later)
        | inr other ↦ let moved : is_record_cursor number (moved_if number lsn cursor) ≡ false = rw other there in rw moved (moved_found number lsn before mode cursors later)
      ]
]

-- what a cursor finds next
found_next : (s : State) (area : Area) (found : Option Cursor) → next_refusal s area found ≡ None
    → (at : Cursor) × (found ≡ Some at) × ((entry : LogEntry) × (next_of_cursor s area at ≡ Some entry))
found_next s area None none = absurd (cc none)
found_next s area (Some at) none = (at, refl, record_there (next_of_cursor s area at) _ _ none)

pub next_there : (told : Bool) (s : State) (client number cursor last : ℕ) (mode : Mode) (happened : Happened) (read : LogEntry) (t : State) → s.broken ≡ false
    → IsAt s client number cursor mode last → Step told s client (calls.ReadNext number cursor) happened (replies.Next read) t
    → (stream : ℕ) × (entry : LogEntry) × (next s stream mode last ≡ Some entry) × (read.lsn ≡ entry.lsn) × IsAt t client number cursor mode entry.lsn
next_there told s client number cursor last mode happened read t whole before step =
    let parts = answered told s client (calls.ReadNext number cursor) happened (replies.Next read) t whole refl step in
    let place = area_there (area_of s client number) (λ (area : Area). next_refusal s area (record_cursor area cursor)) parts.0 in
    let area : Area = place.0 in
    let same : area ≡ before.area = let both : Some area ≡ Some before.area = sym place.1 ∙ before.there in cc both in
    let on : record_cursor area cursor ≡ Some (record { number = cursor; kind = Records mode; last = last })
    = ap (λ (a : Area). record_cursor a cursor) same ∙ before.on in
    let found = found_next s area (record_cursor area cursor) place.2 in
    let at_is : found.0 ≡ record { number = cursor; kind = Records mode; last = last }
    = let both : Some found.0 ≡ Some (record { number = cursor; kind = Records mode; last = last }) = sym found.1 ∙ on in cc both in
    let entry : LogEntry = found.2.0 in
    let next_is_it : next s area.stream mode last ≡ Some entry = ap (λ (c : Cursor). next_of_cursor s area c) (sym at_is) ∙ found.2.1 in
    let moved : Outcome = outcome (replies.Next entry) (change_area (with_cursor_at cursor entry.lsn) area.client area.number s) in
    let outcome_is : answer s client (calls.ReadNext number cursor) ≡ moved
    = ap (λ (o : Option Area). option_map_or (λ (a : Area). moved_on s a cursor (record_cursor a cursor)) o (outcome (replies.Refused refusals.NoSuchArea) s)) place.1
    ∙ ap (λ (o : Option Cursor). moved_on s area cursor o) on
    ∙ ap (λ (o : Option LogEntry). option_map_or (λ (e : LogEntry). outcome (replies.Next e) (change_area (with_cursor_at cursor e.lsn) area.client area.number s)) o (outcome (replies.Refused refusals.NoSuchCursor) s)) next_is_it in
    let comes : Comes told (flushed s) moved (replies.Next read) t
    = subst (λ (o : Outcome). Comes told (flushed s) o (replies.Next read) t) outcome_is parts.1 in
    let change : Area → Area = with_cursor_at cursor entry.lsn in (
      area.stream,
      entry,
      next_is_it,
      next_is told (flushed s) entry read comes.0,
      record {
        area = change area;
        there = ap (λ (x : State). area_of x client number) comes.1
            ∙ changed_area s.areas client number area change (record { client = λ a. refl; number = λ a. refl }) place.1;
        on = moved_found cursor entry.lsn last mode area.cursors on;
      },
    )

-- ---- an append of what an area holds

seal_areas : (s : State) → (seal s).areas ≡ s.areas
seal_areas s = elim (cases_Bool (nat_lt 0 s.place.records)) [ inl some ↦ rw some refl | inr none ↦ rw none refl ]

pub seal_records : (s : State) → (seal s).records ≡ s.records
seal_records s = elim (cases_Bool (nat_lt 0 s.place.records)) [ inl some ↦ rw some refl | inr none ↦ rw none refl ]

flush_if_areas : (asked : Bool) (s : State) → (flush_if asked s).areas ≡ s.areas
flush_if_areas true s = seal_areas s
flush_if_areas false s = refl

pub flush_if_records : (asked : Bool) (s : State) → (flush_if asked s).records ≡ s.records
flush_if_records true s = seal_records s
flush_if_records false s = refl

grown_if_areas : (test : Bool) (s : State) (wanted : ℕ) → (grown_if test s wanted).areas ≡ s.areas
grown_if_areas true s wanted = refl
grown_if_areas false s wanted = refl

grown_areas : (s : State) (need : ℕ) → (grown s need).areas ≡ s.areas
unfolding grown
grown_areas s need = grown_if_areas _ s (reserved s + need)

grown_if_records : (test : Bool) (s : State) (wanted n : ℕ) → ((grown_if test s wanted).records ≡ s.records) × (next_lsn (grown_if test s wanted) n ≡ next_lsn s n)
grown_if_records true s wanted n = (refl, refl)
grown_if_records false s wanted n = (refl, refl)

pub grown_records : (s : State) (need n : ℕ) → ((grown s need).records ≡ s.records) × (next_lsn (grown s need) n ≡ next_lsn s n)
unfolding grown
grown_records s need n = grown_if_records _ s (reserved s + need) n

ready_areas : (s : State) (a b : Bool) → (if a then s else if b then seal s else flush s).areas ≡ s.areas
ready_areas s true b = refl
ready_areas s false true = seal_areas s
ready_areas s false false = seal_areas s

-- the area has spent the record's sectors, and no other area changed
pub appended_areas : (s : State) (area : Area) (draft : Draft) → draft.seal ≡ false
    → (appended s area draft true []).areas ≡ change_first (is_area area.client area.number) (with_less_held (own (length draft.bytes))) s.areas
appended_areas s area draft no_seal =
    let n = length draft.bytes in
    let g = grown s 0 in
    rw no_seal (flush_if_areas draft.flush (change_area (with_less_held (own n)) area.client area.number (put g (plain_record area draft)))
    ∙ ap (λ (l : List Area). change_first (is_area area.client area.number) (with_less_held (own n)) l)
    (ready_areas g (joins g.shape g.place n) (begins_here g.shape g.place n) ∙ grown_areas s 0))

-- the record joins the others
pub appended_records : (s : State) (area : Area) (draft : Draft) → draft.seal ≡ false
    → (appended s area draft true []).records ≡ s.records ++ record (plain_record area draft) { lsn = next_lsn s (length draft.bytes) } ∷ []
appended_records s area draft no_seal =
    let n = length draft.bytes in
    let same = grown_records s 0 n in
    rw no_seal (flush_if_records draft.flush (change_area (with_less_held (own n)) area.client area.number (put (grown s 0) (plain_record area draft)))
    ∙ ap (λ (l : List LogEntry). l ++ record (plain_record area draft) { lsn = next_lsn (grown s 0) n } ∷ []) same.0
    ∙ ap (λ (at : ℕ). s.records ++ record (plain_record area draft) { lsn = at } ∷ []) same.1)

-- ---- by what a read is answered

pub read_reply : (told : Bool) (s : State) (client number lsn : ℕ) (mode : Mode) (result : Result (ℕ × LogEntry) Refusal) (t : State) → s.broken ≡ false → IsValid t
    → Steps told s client (calls.Read number lsn mode) (λ (found : ℕ × LogEntry). replies.Found found.0 found.1) result t
    → IfOk result (λ found. (found.1.lsn ≡ lsn) × IsAt t client number found.0 mode lsn)
read_reply told s client number lsn mode (Ok found) t whole valid steps =
    read_there told s client number lsn mode (happened_of (replies.Found found.0 found.1)) found.0 found.1 t whole valid steps
read_reply told s client number lsn mode (Err refusal) t whole valid steps = tt

pub at_reply : (s t : State) (client number lsn : ℕ) (mode : Mode) (result : Result (ℕ × LogEntry) Refusal)
    → IfOk result (λ found. (found.1.lsn ≡ lsn) × IsAt t client number found.0 mode lsn) → IfOk result (λ found. IsAt t client number found.0 mode lsn)
at_reply s t client number lsn mode (Ok found) both = both.1
at_reply s t client number lsn mode (Err refusal) both = tt

pub there_reply : (s t : State) (client number lsn : ℕ) (mode : Mode) (result : Result (ℕ × LogEntry) Refusal)
    → IfOk result (λ found. (found.1.lsn ≡ lsn) × IsAt t client number found.0 mode lsn) → IfOk result (λ found. found.1.lsn ≡ lsn)
there_reply s t client number lsn mode (Ok found) both = both.0
there_reply s t client number lsn mode (Err refusal) both = tt

-- reading on
pub next_at_reply : (told : Bool) (s : State) (client number cursor : ℕ) (result : Result LogEntry Refusal) (t : State) → s.broken ≡ false
    → Steps told s client (calls.ReadNext number cursor) replies.Next result t
    → IfOk result (λ entry. (mode : Mode) (last : ℕ) → IsAt s client number cursor mode last → IsAt t client number cursor mode entry.lsn)
next_at_reply told s client number cursor (Ok entry) t whole steps = λ mode last at.
    let comes = next_there told s client number cursor last mode (happened_of (replies.Next entry)) entry t whole at steps in
    subst (λ (l : ℕ). IsAt t client number cursor mode l) (sym comes.3) comes.4
next_at_reply told s client number cursor (Err refusal) t whole steps = tt
