-- Reading along the undo-next links, for a store: from the newest set of a transaction that stands to the one below it, and the end of the cursor.
use Rattle.clfs_cells_laws.proofs.Words.{◌≡◌, ℕ, Bool, true, refl, sym, subst, ap, ◌∙◌, inl, inr, [], ◌∷◌, Option, Some, None, ◌==◌, is_none, option_and_then}
use Rattle.clfs_cells_laws.proofs.Words.{option_map_or, eq-eqb, eqb-true, cursor_in, cursors_moved, cursors_without, record_cursor_in, unused_cursor, Cursor}
use Rattle.clfs_cells_laws.proofs.Words.{Records, UndoNext, LogEntry, Refusal, Happened, Reply, Area, State, Outcome, answer, found_with_cursor, moved_on}
use Rattle.clfs_cells_laws.proofs.Words.{outcome, read_at, flushed, live, live_at, cursor_of, record_cursor, with_cursor, with_cursor_at, without_cursor}
use Rattle.clfs_cells_laws.proofs.Words.{next_refusal, read_refusal, refusal, refused_if, change_area, Step, Comes, with_broken, Answered, with_read_ended}
use Rattle.clfs_cells_laws.proofs.Words.{Plan, CarriesOut, Memory, from_outside, IsBrokenStore, IsLiveRecord, IsStoreWith, store_area}
use Rattle.clfs_model.specs.declared.call.Call.TheVariants as calls
use Rattle.clfs_model.specs.declared.refusal.Refusal.TheVariants as refusals
use Rattle.clfs_model.specs.declared.reply.Reply.TheVariants as replies
use Rattle.clfs_model.specs.Reading.{entry_at}
use Rattle.clfs_cells_laws.proofs.Grown.{live_there}
use Rattle.clfs_cells_laws.proofs.OwnCalls.{Laws, Went, broke, gave, kept, went}
use Rattle.clfs_cells_laws.proofs.ReadBack.{found_read, next_read}
use Rattle.clfs_cells_laws.proofs.Stacks.{first_passes}
use Rattle.clfs_cells_laws.proofs.StoreCalls.{moved_store}
use Rattle.clfs_cells_laws.proofs.Ways.{broken_way, way}

-- a cursor that goes along undo-next links
abbrev pub undo_cursor : ℕ → ℕ → Cursor
undo_cursor number last = record { number = number; kind = Records UndoNext; last = last }

-- the number of a store's cursor
abbrev pub first_cursor : ℕ
first_cursor = unused_cursor []

live_lsn : (s : State) (stream lsn : ℕ) (is : IsLiveRecord s stream lsn) → is.entry.lsn ≡ lsn
live_lsn s stream lsn is = eqb-true is.entry.lsn lsn (first_passes (λ (e : LogEntry). e.lsn == lsn) s.records is.entry is.there)

-- ---- reading begins

read_passes : {tabled : Bool} → (s : State) (memory : Memory) (lsn : ℕ) → IsStoreWith tabled [] s memory → IsLiveRecord s memory.stream lsn
    → refusal s memory.client (calls.Read memory.area lsn UndoNext) ≡ None
read_passes {tabled = tabled} s memory lsn store live =
    ap (λ (o : Option Area). option_map_or (λ (area : Area). read_refusal s area lsn) o (Some refusals.NoSuchArea)) store.area
    ∙ ap (λ (o : Option LogEntry). refused_if (is_none o) (refusals.RecordNonexistent lsn) None) (live_there s memory.stream lsn live)

read_answers : {tabled : Bool} → (s : State) (memory : Memory) (lsn : ℕ) → IsStoreWith tabled [] s memory → (live : IsLiveRecord s memory.stream lsn)
    → answer s memory.client (calls.Read memory.area lsn UndoNext)
    ≡ outcome (replies.Found first_cursor live.entry) (change_area (with_cursor (undo_cursor first_cursor lsn)) memory.client memory.area s)
read_answers {tabled = tabled} s memory lsn store live =
    ap (λ (o : Option Area). option_map_or (λ (a : Area). read_at s a lsn UndoNext) o (outcome (replies.Refused refusals.NoSuchArea) s)) store.area
    ∙ ap (λ (o : Option LogEntry). option_map_or (found_with_cursor s (store_area memory []) (Records UndoNext)) o (outcome (replies.Refused (refusals.RecordNonexistent lsn)) s))
    (live_there s memory.stream lsn live)
    ∙ ap (λ (n : ℕ). outcome (replies.Found first_cursor live.entry) (change_area (with_cursor (undo_cursor first_cursor n)) memory.client memory.area s))
    (live_lsn s memory.stream lsn live)

-- nothing came of a call: memory ran out, or the log is broken now
pub data Stopped (s : State) (reply : Reply) (mid : State) : Type 0 where
  left_whole : reply ≡ replies.Refused refusals.NoMemory → mid ≡ s → Stopped s reply mid
  left_broken : (given : Refusal) → from_outside given ≡ true → reply ≡ replies.Refused given → mid ≡ with_broken s → Stopped s reply mid

-- how a read ends: the cursor stands at the record, or nothing came of it
pub data Began (tabled : Bool) (told : Bool) (s : State) (memory : Memory) (lsn : ℕ) (reply : Reply) (mid : State) : Type 0 where
  found : (read : LogEntry) → reply ≡ replies.Found first_cursor read → read.lsn ≡ lsn → IsStoreWith tabled (undo_cursor first_cursor lsn ∷ []) mid memory
      → Began tabled told s memory lsn reply mid
  not_read : Stopped s reply mid → Began tabled told s memory lsn reply mid

pub begins : {tabled : Bool} → Laws → (told : Bool) (s : State) (memory : Memory) (lsn : ℕ) (happened : Happened) (reply : Reply) (mid : State) → IsStoreWith tabled [] s memory
    → IsLiveRecord s memory.stream lsn → Step told s memory.client (calls.Read memory.area lsn UndoNext) happened reply mid → Began tabled told s memory lsn reply mid
begins {tabled = tabled} laws told s memory lsn happened reply mid store live step =
    by (went told s memory.client (calls.Read memory.area lsn UndoNext) reply mid (read_passes s memory lsn store live)
    (way told s memory.client (calls.Read memory.area lsn UndoNext) happened reply mid store.whole step))
  where
    at : Cursor
    at = undo_cursor first_cursor lsn

    by : Went told s memory.client (calls.Read memory.area lsn UndoNext) reply mid → Began tabled told s memory lsn reply mid
    by (kept takes is same) = not_read (left_whole is same)
    by (broke how given outside is same) = not_read (left_broken given outside is same)
    by (gave comes) =
        let after : State = change_area (with_cursor (undo_cursor first_cursor lsn)) memory.client memory.area s in
        let so : Comes told (flushed s) (outcome (replies.Found first_cursor live.entry) after) reply mid
        = subst (λ (o : Outcome). Comes told (flushed s) o reply mid) (read_answers s memory lsn store live) comes in
        let read = found_read told (flushed s) first_cursor live.entry reply so.0 in
        let valid = laws.keeps told s memory.client (calls.Read memory.area lsn UndoNext) happened reply mid store.valid step in
        found read.0 read.1 (read.2.lsn ∙ live_lsn s memory.stream lsn live)
        (moved_store s mid memory [] (undo_cursor first_cursor lsn ∷ []) (with_cursor (undo_cursor first_cursor lsn)) store valid
        (record { client = λ a. refl; number = λ a. refl }) refl so.1)

-- ---- reading goes on

its_cursor : (k last : ℕ) → record_cursor_in (undo_cursor k last ∷ []) k ≡ Some (undo_cursor k last)
its_cursor k last = rw (eq-eqb k k refl) refl

moves : (k last lsn : ℕ) → cursors_moved k lsn (undo_cursor k last ∷ []) ≡ undo_cursor k lsn ∷ []
moves k last lsn = rw (eq-eqb k k refl) refl

next_live : (s : State) (stream : ℕ) (last lsn : ℕ) (entry : LogEntry) → entry_at s last ≡ Some entry → entry.undo_next ≡ lsn → (live : IsLiveRecord s stream lsn)
    → option_and_then (λ (e : LogEntry). live_at s stream e.undo_next) (entry_at s last) ≡ Some live.entry
next_live s stream last lsn entry is link live =
    ap (option_and_then (λ (e : LogEntry). live_at s stream e.undo_next)) is ∙ ap (live_at s stream) link ∙ live_there s stream lsn live

module _ (tabled : Bool) (s : State) (memory : Memory) (k last lsn : ℕ) (store : IsStoreWith tabled (undo_cursor k last ∷ []) s memory) (entry : LogEntry) (is : entry_at s last ≡ Some entry)
    (link : entry.undo_next ≡ lsn) (live : IsLiveRecord s memory.stream lsn) where
  next_is : option_and_then (λ (e : LogEntry). live_at s memory.stream e.undo_next) (entry_at s last) ≡ Some live.entry
  next_is = next_live s memory.stream last lsn entry is link live

  next_passes : refusal s memory.client (calls.ReadNext memory.area k) ≡ None
  next_passes =
      ap (λ (o : Option Area). option_map_or (λ (area : Area). next_refusal s area (record_cursor area k)) o (Some refusals.NoSuchArea)) store.area
      ∙ ap (λ (o : Option Cursor). next_refusal s (store_area memory (undo_cursor k last ∷ [])) o) (its_cursor k last)
      ∙ ap (λ (o : Option LogEntry). refused_if (is_none o) refusals.StartOfLog None) next_is

  next_answers : answer s memory.client (calls.ReadNext memory.area k)
      ≡ outcome (replies.Next live.entry) (change_area (with_cursor_at k lsn) memory.client memory.area s)
  next_answers =
      ap (λ (o : Option Area). option_map_or (λ (a : Area). moved_on s a k (record_cursor a k)) o (outcome (replies.Refused refusals.NoSuchArea) s)) store.area
      ∙ ap (λ (o : Option Cursor). moved_on s (store_area memory (undo_cursor k last ∷ [])) k o) (its_cursor k last)
      ∙ ap (λ (o : Option LogEntry). option_map_or (λ (e : LogEntry). outcome (replies.Next e) (change_area (with_cursor_at k e.lsn) memory.client memory.area s)) o
      (outcome (replies.Refused refusals.NoSuchCursor) s)) next_is
      ∙ ap (λ (n : ℕ). outcome (replies.Next live.entry) (change_area (with_cursor_at k n) memory.client memory.area s)) (live_lsn s memory.stream lsn live)

pub data WentOn (tabled : Bool) (told : Bool) (s : State) (memory : Memory) (k lsn : ℕ) (reply : Reply) (mid : State) : Type 0 where
  next : (read : LogEntry) → reply ≡ replies.Next read → read.lsn ≡ lsn → IsStoreWith tabled (undo_cursor k lsn ∷ []) mid memory → WentOn tabled told s memory k lsn reply mid
  not_next : Stopped s reply mid → WentOn tabled told s memory k lsn reply mid

pub goes_on : {tabled : Bool} → Laws → (told : Bool) (s : State) (memory : Memory) (k last lsn : ℕ) (entry : LogEntry) (happened : Happened) (reply : Reply) (mid : State)
    → IsStoreWith tabled (undo_cursor k last ∷ []) s memory → entry_at s last ≡ Some entry → entry.undo_next ≡ lsn → IsLiveRecord s memory.stream lsn
    → Step told s memory.client (calls.ReadNext memory.area k) happened reply mid → WentOn tabled told s memory k lsn reply mid
goes_on {tabled = tabled} laws told s memory k last lsn entry happened reply mid store is link live step =
    by (went told s memory.client (calls.ReadNext memory.area k) reply mid (next_passes tabled s memory k last lsn store entry is link live)
    (way told s memory.client (calls.ReadNext memory.area k) happened reply mid store.whole step))
  where
    by : Went told s memory.client (calls.ReadNext memory.area k) reply mid → WentOn tabled told s memory k lsn reply mid
    by (kept takes same_reply same) = not_next (left_whole same_reply same)
    by (broke how given outside same_reply same) = not_next (left_broken given outside same_reply same)
    by (gave comes) =
        let after : State = change_area (with_cursor_at k lsn) memory.client memory.area s in
        let so : Comes told (flushed s) (outcome (replies.Next live.entry) after) reply mid
        = subst (λ (o : Outcome). Comes told (flushed s) o reply mid) (next_answers tabled s memory k last lsn store entry is link live) comes in
        let read = next_read told (flushed s) live.entry reply so.0 in
        let valid = laws.keeps told s memory.client (calls.ReadNext memory.area k) happened reply mid store.valid step in
        next read.0 read.1 (read.2.lsn ∙ live_lsn s memory.stream lsn live)
        (moved_store s mid memory (undo_cursor k last ∷ []) (undo_cursor k lsn ∷ []) (with_cursor_at k lsn) store valid
        (record { client = λ a. refl; number = λ a. refl }) (ap (store_area memory) (moves k last lsn)) so.1)

-- ---- reading ends

end_passes : {tabled : Bool} → (s : State) (memory : Memory) (k last : ℕ) → IsStoreWith tabled (undo_cursor k last ∷ []) s memory
    → refusal s memory.client (calls.EndRead memory.area k) ≡ None
end_passes {tabled = tabled} s memory k last store =
    let itself : cursor_in (undo_cursor k last ∷ []) k ≡ Some (undo_cursor k last) = rw (eq-eqb k k refl) refl in
    ap (λ (o : Option Area). option_map_or (λ (area : Area). refused_if (is_none (cursor_of area k)) refusals.NoSuchCursor None) o (Some refusals.NoSuchArea)) store.area
    ∙ ap (λ (o : Option Cursor). refused_if (is_none o) refusals.NoSuchCursor None) itself

pub read_ended : {tabled : Bool} → Laws → (told : Bool) (s : State) (memory : Memory) (k last : ℕ) (rest : Plan Answered) (result : Answered) (t : State)
    → IsStoreWith tabled (undo_cursor k last ∷ []) s memory → CarriesOut told memory.client s (with_read_ended memory k rest) result t
    → (u : State) × IsStoreWith tabled [] u memory × CarriesOut told memory.client u rest result t
read_ended {tabled = tabled} laws told s memory k last rest result t store (happened, reply, mid, (step, behind)) =
    by (went told s memory.client (calls.EndRead memory.area k) reply mid (end_passes s memory k last store)
    (way told s memory.client (calls.EndRead memory.area k) happened reply mid store.whole step))
  where
    by : Went told s memory.client (calls.EndRead memory.area k) reply mid → (u : State) × IsStoreWith tabled [] u memory × CarriesOut told memory.client u rest result t
    by (kept takes is same) = absurd (cc takes)
    by (broke (inl how) given outside is same) = absurd (cc how)
    by (broke (inr how) given outside is same) = absurd (cc how)
    by (gave comes) =
        let valid = laws.keeps told s memory.client (calls.EndRead memory.area k) happened reply mid store.valid step in
        let gone : cursors_without k (undo_cursor k last ∷ []) ≡ [] = rw (eq-eqb k k refl) refl in (
          mid,
          moved_store s mid memory (undo_cursor k last ∷ []) [] (without_cursor k) store valid (record { client = λ a. refl; number = λ a. refl })
              (ap (store_area memory) gone) comes.1,
          behind,
        )

pub read_ended_broken : {tabled : Bool} → (told : Bool) (s : State) (memory : Memory) (k : ℕ) (rest : Plan Answered) (result : Answered) (t : State) → IsBrokenStore tabled s memory
    → CarriesOut told memory.client s (with_read_ended memory k rest) result t
    → (u : State) × IsBrokenStore tabled u memory × CarriesOut told memory.client u rest result t
read_ended_broken {tabled = tabled} told s memory k rest result t broken (happened, reply, mid, (step, behind)) =
    let stays = broken_way told s memory.client (calls.EndRead memory.area k) happened reply mid broken.broken step in
    (mid, subst (λ (x : State). IsBrokenStore tabled x memory) (sym stays.1) broken, behind)
