-- What the calls that read come to.
use Rattle.clfs_laws.proofs.Words.{◌≡◌, ◌≢◌, ℕ, zero, suc, Bool, true, false, refl, sym, ap, ◌∙◌, subst, List, [], ◌∷◌, ◌++◌, length, arith, Option, Some}
use Rattle.clfs_laws.proofs.Words.{None, is_none, filter, slice_get, ◌==◌, ◌&&◌, option_map_or, LogEntry, Call, Mode, Previous, UndoNext, Forward, Refusal}
use Rattle.clfs_laws.proofs.Words.{Fine, Reply, State, Area, Cursor, CursorKind, Records, RestartAreas, area_of, change_area, live, live_at, is_live, next}
use Rattle.clfs_laws.proofs.Words.{chain_from, chain, restart_areas, is_restart, newest_restart, next_of_cursor, record_cursor, restart_cursor}
use Rattle.clfs_laws.proofs.Words.{with_cursor_at, unused_cursor, flushed, refusal, refused_if, read_refusal, next_refusal, too_many_cursors, end_of_kind}
use Rattle.clfs_laws.proofs.Words.{Outcome, outcome, answer, read_at, read_newest_restart, found_with_cursor, moved_on, Step, Comes, IsReply, IsValid}
use Rattle.clfs_laws.proofs.Words.{cursor_of_kind, still_to_come, StillGives}
use Rattle.std.specs.List.{AllZip}
use Rattle.clfs_model.specs.declared.call.Call.TheVariants as calls
use Rattle.clfs_model.specs.declared.refusal.Refusal.TheVariants as refusals
use Rattle.clfs_model.specs.declared.reply.Reply.TheVariants as replies
use Rattle.clfs_model.specs.Reading.{restart_below}
use Rattle.clfs_model.specs.Refusals.{end_of_mode}
use Rattle.clfs_laws.specs.Cursors.{read_on, Repeats}
use Rattle.clfs_laws.proofs.ChainLengths.{live_is, comes_behind, chain_is}
use Rattle.clfs_laws.proofs.FallingLists.{Falls, rises, filter_rises, reverse_falls, below_lsn, below_first, below_next, found_first, none_passes}
use Rattle.clfs_laws.proofs.CursorGives.{made_gives, moved_gives}
use Rattle.clfs_laws.proofs.ValidAreaCalls.{valid_cursor, area_with_cursor_at}
use Rattle.clfs_laws.proofs.FineSteps.{fine_refused, fine_answered, done, comes_as, same_cursor}

-- what a call in an area is refused for, and what it answers, where the area is there
pub in_area_is : (rest : Area → Option Refusal) (found : Option Area) (area : Area) → found ≡ Some area
    → option_map_or rest found (Some refusals.NoSuchArea) ≡ rest area
in_area_is rest found area is = ap (λ (f : Option Area). option_map_or rest f (Some refusals.NoSuchArea)) is

pub over_area_is : (s : State) (rest : Area → Outcome) (found : Option Area) (area : Area) → found ≡ Some area
    → option_map_or rest found (outcome (replies.Refused refusals.NoSuchArea) s) ≡ rest area
over_area_is s rest found area is = ap (λ (f : Option Area). option_map_or rest f (outcome (replies.Refused refusals.NoSuchArea) s)) is

-- a refusal isn't answered by a record
no_record : (told : Bool) (stable : ℕ) (given : Refusal) (cursor : ℕ) (read : LogEntry) → IsReply told stable (replies.Refused given) (replies.Found cursor read) → ⊥
no_record true stable given cursor read is = absurd (cc)
no_record false stable given cursor read is = absurd (cc)

-- a record that was found, and what its cursor still gives; `entries` is all that reading gives
abbrev pub FindsFirst : Bool → ℕ → State → ℕ → ℕ → ℕ → LogEntry → CursorKind → List LogEntry → Type 0
FindsFirst told stable t client number cursor read kind entries = (entry : LogEntry) × (rest : List LogEntry) × (entries ≡ entry ∷ rest)
    × IsReply told stable (replies.Found cursor entry) (replies.Found cursor read) × StillGives t client number cursor kind rest

-- where the machine finds a record, with a new cursor at it
finds_first : (told : Bool) (s t : State) (client number : ℕ) (area : Area) (cursor : ℕ) (read : LogEntry) (kind : CursorKind)
    (entry : LogEntry) (entries rest : List LogEntry)
    → area_of s client number ≡ Some area → entries ≡ entry ∷ rest → still_to_come s area.stream kind entry.lsn ≡ rest
    → Comes told (flushed s) (found_with_cursor s area kind entry) (replies.Found cursor read) t → FindsFirst told (flushed s) t client number cursor read kind entries
finds_first told s t client number area cursor read kind entry entries rest there all to_come comes =
    let same : cursor ≡ unused_cursor area.cursors = same_cursor told (flushed s) (unused_cursor area.cursors) cursor entry read comes.0 in
    let F : ℕ → Type 0 = λ n. IsReply told (flushed s) (replies.Found n entry) (replies.Found cursor read) in
    let G : ℕ → Type 0 = λ n. StillGives (found_with_cursor s area kind entry).state client number n kind rest in
    let H : State → Type 0 = λ x. StillGives x client number cursor kind rest in (
      entry,
      rest,
      all,
      subst F (sym same) comes.0,
      subst H (sym comes.1) (subst G (sym same) (made_gives s client number area kind entry.lsn rest there to_come)),
    )

read_by : (told : Bool) (s t : State) (client number lsn : ℕ) (mode : Mode) (area : Area) (cursor : ℕ) (read : LogEntry) (found : Option LogEntry)
    → IsValid s
    → area_of s client number ≡ Some area → live_at s area.stream lsn ≡ found
    → Comes told (flushed s) (option_map_or (found_with_cursor s area (Records mode)) found (outcome (replies.Refused (refusals.RecordNonexistent lsn)) s))
    (replies.Found cursor read) t
    → FindsFirst told (flushed s) t client number cursor read (Records mode) (chain s area.stream lsn mode)
read_by told s t client number lsn mode area cursor read None valid there at comes =
    absurd (no_record told (flushed s) (refusals.RecordNonexistent lsn) cursor read comes.0)
read_by told s t client number lsn mode area cursor read (Some entry) valid there at comes =
    let among = (live_is s area.stream (λ (e : LogEntry). e.lsn == lsn) entry at).among in
    let all : chain s area.stream lsn mode ≡ entry ∷ still_to_come s area.stream (Records mode) entry.lsn =
    ap (λ (f : Option LogEntry). chain_from s area.stream mode (length s.records) f) at ∙ chain_is s area.stream mode entry valid among in
    finds_first told s t client number area cursor read (Records mode) entry _ (still_to_come s area.stream (Records mode) entry.lsn) there all refl comes

-- a read that found a record
pub read_first : (told : Bool) (s t : State) (client number lsn : ℕ) (mode : Mode) (area : Area) (cursor : ℕ) (read : LogEntry) → IsValid s
    → area_of s client number ≡ Some area → Step told s client (calls.Read number lsn mode) Fine (replies.Found cursor read) t
    → FindsFirst told (flushed s) t client number cursor read (Records mode) (chain s area.stream lsn mode)
read_first told s t client number lsn mode area cursor read valid there step =
    let comes = (done told s t client (calls.Read number lsn mode) (replies.Found cursor read) (λ given e. absurd (cc)) step).1 in
    read_by told s t client number lsn mode area cursor read (live_at s area.stream lsn) valid there refl
    (comes_as told (flushed s) (answer s client (calls.Read number lsn mode)) (read_at s area lsn mode) (replies.Found cursor read) t
    (over_area_is s (λ (a : Area). read_at s a lsn mode) (area_of s client number) area there) comes)

-- an empty chain has no record at its LSN
no_first : (s : State) (stream lsn : ℕ) (mode : Mode) (found : Option LogEntry) → IsValid s → live_at s stream lsn ≡ found
    → chain s stream lsn mode ≡ [] → found ≡ None
no_first s stream lsn mode None valid at none = refl
no_first s stream lsn mode (Some entry) valid at none =
    let among = (live_is s stream (λ (e : LogEntry). e.lsn == lsn) entry at).among in
    let all : chain s stream lsn mode ≡ entry ∷ still_to_come s stream (Records mode) entry.lsn =
    ap (λ (f : Option LogEntry). chain_from s stream mode (length s.records) f) at ∙ chain_is s stream mode entry valid among in
    absurd (cc)

-- a read where there is no record
pub read_none : (told : Bool) (s t : State) (client number lsn : ℕ) (mode : Mode) (area : Area) (reply : Reply) → IsValid s → s.broken ≡ false
    → area_of s client number ≡ Some area → chain s area.stream lsn mode ≡ [] → Step told s client (calls.Read number lsn mode) Fine reply t
    → reply ≢ replies.Refused refusals.NoMemory → (reply ≡ replies.Refused (refusals.RecordNonexistent lsn)) × (t ≡ s)
read_none told s t client number lsn mode area reply valid whole there none step memory =
    let no_record_there = no_first s area.stream lsn mode (live_at s area.stream lsn) valid refl none in
    fine_refused told s t client (calls.Read number lsn mode) reply (refusals.RecordNonexistent lsn) whole step memory
    (in_area_is (λ (a : Area). read_refusal s a lsn) (area_of s client number) area there
    ∙ ap (λ (f : Option LogEntry). refused_if (is_none f) (refusals.RecordNonexistent lsn) (too_many_cursors area)) no_record_there)

-- where a cursor of a kind comes to
abbrev pub next_of_kind : State → ℕ → CursorKind → ℕ → Option LogEntry
next_of_kind s stream (Records mode) last = next s stream mode last
next_of_kind s stream RestartAreas last = restart_below s stream last

next_by : (s : State) (area : Area) (number last : ℕ) (kind : CursorKind)
    → next_of_cursor s area (record { number = number; kind = kind; last = last }) ≡ next_of_kind s area.stream kind last
next_by s area number last (Records mode) = refl
next_by s area number last RestartAreas = refl

pub next_is : (s : State) (area : Area) (at : Cursor) (kind : CursorKind) → at.kind ≡ kind → next_of_cursor s area at ≡ next_of_kind s area.stream kind at.last
next_is s area at kind same = next_by s area at.number at.last at.kind ∙ ap (λ (k : CursorKind). next_of_kind s area.stream k at.last) same

-- A call that reads on with a cursor: where the cursor comes to a record, the reply is that and the cursor moves there.
abbrev pub MovesOn : Bool → State → State → Area → ℕ → Reply → LogEntry → Type 0
MovesOn told s t area cursor reply entry =
    IsReply told (flushed s) (replies.Next entry) reply × (t ≡ change_area (with_cursor_at cursor entry.lsn) area.client area.number s)

-- the outcome of that
abbrev moved_outcome : State → Area → ℕ → LogEntry → Outcome
moved_outcome s area cursor entry = outcome (replies.Next entry) (change_area (with_cursor_at cursor entry.lsn) area.client area.number s)

moves_on : (told : Bool) (s t : State) (client cursor : ℕ) (call : Call) (area : Area) (at : Cursor) (found : Option Cursor) (entry : LogEntry)
    (reply : Reply) → s.broken ≡ false → Step told s client call Fine reply t → reply ≢ replies.Refused refusals.NoMemory
    → refusal s client call ≡ next_refusal s area found → answer s client call ≡ moved_on s area cursor found → found ≡ Some at
    → next_of_cursor s area at ≡ Some entry → MovesOn told s t area cursor reply entry
moves_on told s t client cursor call area at found entry reply whole step memory refuses answers there leads =
    let passes : refusal s client call ≡ None = refuses ∙ ap (next_refusal s area) there
    ∙ ap (λ (f : Option LogEntry). refused_if (is_none f) (end_of_kind at.kind) None) leads in
    let goes : answer s client call ≡ moved_outcome s area cursor entry =
    answers ∙ ap (moved_on s area cursor) there
    ∙ ap (λ (f : Option LogEntry). option_map_or (moved_outcome s area cursor) f (outcome (replies.Refused refusals.NoSuchCursor) s)) leads in
    comes_as told (flushed s) (answer s client call) (moved_outcome s area cursor entry) reply t goes (fine_answered told s t client call reply whole step memory passes)

comes_to_end : (told : Bool) (s t : State) (client : ℕ) (call : Call) (area : Area) (at : Cursor) (found : Option Cursor) (kind : CursorKind) (reply : Reply)
    → s.broken ≡ false → Step told s client call Fine reply t → reply ≢ replies.Refused refusals.NoMemory
    → refusal s client call ≡ next_refusal s area found → found ≡ Some at → at.kind ≡ kind
    → next_of_cursor s area at ≡ None → (reply ≡ replies.Refused (end_of_kind kind)) × (t ≡ s)
comes_to_end told s t client call area at found kind reply whole step memory refuses there same leads =
    fine_refused told s t client call reply (end_of_kind kind) whole step memory
    (refuses ∙ ap (next_refusal s area) there ∙ ap (λ (f : Option LogEntry). refused_if (is_none f) (end_of_kind at.kind) None) leads
    ∙ ap (λ (k : CursorKind). Some (end_of_kind k)) same)

-- where a cursor that still gives records comes to, and what it gives from there
abbrev pub LeadsOn : State → ℕ → CursorKind → ℕ → LogEntry → List LogEntry → Type 0
LeadsOn s stream kind last entry rest = (next_of_kind s stream kind last ≡ Some entry) × (still_to_come s stream kind entry.lsn ≡ rest)

no_chain : (s : State) (stream : ℕ) (mode : Mode) (bound : ℕ) → chain_from s stream mode bound None ≡ []
no_chain s stream mode zero = refl
no_chain s stream mode (suc bound) = refl

chain_leads : (s : State) (stream : ℕ) (mode : Mode) (last : ℕ) (found : Option LogEntry) (entry : LogEntry) (rest : List LogEntry) → IsValid s
    → next s stream mode last ≡ found → chain_from s stream mode (length s.records) found ≡ entry ∷ rest → LeadsOn s stream (Records mode) last entry rest
chain_leads s stream mode last None entry rest valid at gives = absurd (let none = no_chain s stream mode (length s.records) in cc)
chain_leads s stream mode last (Some first) entry rest valid at gives =
    let comes = comes_behind s stream mode last first valid at in
    let all : first ∷ still_to_come s stream (Records mode) first.lsn ≡ entry ∷ rest = sym (chain_is s stream mode first valid comes.among) ∙ gives in
    let same : first ≡ entry = cc in
    let F : LogEntry → Type 0 = λ e. still_to_come s stream (Records mode) e.lsn ≡ rest in
    let to_come : still_to_come s stream (Records mode) first.lsn ≡ rest = cc in
    (at ∙ ap (λ (e : LogEntry). Some e) same, subst F same to_come)

chain_ends : (s : State) (stream : ℕ) (mode : Mode) (last : ℕ) (found : Option LogEntry) → IsValid s
    → next s stream mode last ≡ found → chain_from s stream mode (length s.records) found ≡ [] → found ≡ None
chain_ends s stream mode last None valid at gives = refl
chain_ends s stream mode last (Some first) valid at gives =
    let comes = comes_behind s stream mode last first valid at in
    absurd (let all = chain_is s stream mode first valid comes.among in cc)

-- restart areas fall
restarts_fall : (s : State) (stream : ℕ) → IsValid s → Falls (restart_areas s stream)
restarts_fall s stream valid =
    reverse_falls (filter (λ (e : LogEntry). is_restart e.kind) (live s stream))
    (filter_rises (λ (e : LogEntry). is_restart e.kind) (live s stream)
    (filter_rises (λ (e : LogEntry). (e.stream == stream) && is_live s e) s.records (rises s.records valid.records.rising)))

leads_on : (s : State) (stream : ℕ) (kind : CursorKind) (last : ℕ) (entry : LogEntry) (rest : List LogEntry) → IsValid s
    → still_to_come s stream kind last ≡ entry ∷ rest → LeadsOn s stream kind last entry rest
leads_on s stream (Records mode) last entry rest valid gives = chain_leads s stream mode last (next s stream mode last) entry rest valid refl gives
leads_on s stream RestartAreas last entry rest valid gives =
    (found_first _ (restart_areas s stream) entry rest gives, below_next last (restart_areas s stream) entry rest (restarts_fall s stream valid) gives)

leads_nowhere : (s : State) (stream : ℕ) (kind : CursorKind) (last : ℕ) → IsValid s → still_to_come s stream kind last ≡ []
    → next_of_kind s stream kind last ≡ None
leads_nowhere s stream (Records mode) last valid gives = chain_ends s stream mode last (next s stream mode last) valid refl gives
leads_nowhere s stream RestartAreas last valid gives = none_passes _ (restart_areas s stream) gives

-- what it is refused for, and what it answers
refused_so : (s : State) (client number cursor : ℕ) (area : Area) (kind : CursorKind) → area_of s client number ≡ Some area
    → refusal s client (read_on kind number cursor) ≡ next_refusal s area (cursor_of_kind area cursor kind)
refused_so s client number cursor area (Records mode) there =
    in_area_is (λ (a : Area). next_refusal s a (record_cursor a cursor)) (area_of s client number) area there
refused_so s client number cursor area RestartAreas there =
    in_area_is (λ (a : Area). next_refusal s a (restart_cursor a cursor)) (area_of s client number) area there

answered_so : (s : State) (client number cursor : ℕ) (area : Area) (kind : CursorKind) → area_of s client number ≡ Some area
    → answer s client (read_on kind number cursor) ≡ moved_on s area cursor (cursor_of_kind area cursor kind)
answered_so s client number cursor area (Records mode) there =
    over_area_is s (λ (a : Area). moved_on s a cursor (record_cursor a cursor)) (area_of s client number) area there
answered_so s client number cursor area RestartAreas there =
    over_area_is s (λ (a : Area). moved_on s a cursor (restart_cursor a cursor)) (area_of s client number) area there

-- a reading that gave a record
pub record GivesNext (told : Bool) (s t : State) (client number cursor : ℕ) (kind : CursorKind) (entry : LogEntry) (rest : List LogEntry) (reply : Reply)
    : Type 0 where
  pub replied : IsReply told (flushed s) (replies.Next entry) reply
  pub gives : StillGives t client number cursor kind rest
  pub valid : IsValid t
  pub whole : t.broken ≡ s.broken
  pub stable : flushed t ≡ flushed s

-- a cursor that still gives records
gives_next : (told : Bool) (s t : State) (client number cursor : ℕ) (kind : CursorKind) (entry : LogEntry) (rest : List LogEntry) (reply : Reply)
    → IsValid s → s.broken ≡ false → StillGives s client number cursor kind (entry ∷ rest)
    → Step told s client (read_on kind number cursor) Fine reply t → reply ≢ replies.Refused refusals.NoMemory
    → GivesNext told s t client number cursor kind entry rest reply
gives_next told s t client number cursor kind entry rest reply valid whole given step memory =
    let leads = leads_on s given.area.stream kind given.at.last entry rest valid given.gives in
    let on = moves_on told s t client cursor (read_on kind number cursor) given.area given.at (cursor_of_kind given.area cursor kind) entry reply
    whole step memory (refused_so s client number cursor given.area kind given.area_there)
    (answered_so s client number cursor given.area kind given.area_there) given.cursor_there
    (next_is s given.area given.at kind given.same_kind ∙ leads.0) in
    let change : Area → Area = with_cursor_at cursor entry.lsn in
    let F : State → Type 0 = λ x. StillGives x client number cursor kind rest in
    record {
      replied = on.0;
      gives = subst F (sym on.1)
          (moved_gives s client number cursor given.area given.at kind entry.lsn rest given.area_there given.cursor_there given.same_kind leads.1);
      valid = subst IsValid (sym on.1) (valid_cursor s client number given.area change given.area_there
          (record { client = λ a. refl; number = λ a. refl }) (area_with_cursor_at s cursor entry.lsn given.area) refl valid);
      whole = ap (λ (x : State). x.broken) on.1;
      stable = ap flushed on.1;
    }

pub reads_next : (told : Bool) (s t : State) (client number cursor : ℕ) (kind : CursorKind) (entry : LogEntry) (rest : List LogEntry) (reply : Reply)
    → IsValid s → s.broken ≡ false → StillGives s client number cursor kind (entry ∷ rest)
    → Step told s client (read_on kind number cursor) Fine reply t → reply ≢ replies.Refused refusals.NoMemory
    → IsReply told (flushed s) (replies.Next entry) reply × StillGives t client number cursor kind rest
reads_next told s t client number cursor kind entry rest reply valid whole given step memory =
    let next = gives_next told s t client number cursor kind entry rest reply valid whole given step memory in (next.replied, next.gives)

-- a cursor that gives no more
pub reads_end : (told : Bool) (s t : State) (client number cursor : ℕ) (kind : CursorKind) (reply : Reply) → IsValid s
    → s.broken ≡ false → StillGives s client number cursor kind [] → Step told s client (read_on kind number cursor) Fine reply t
    → reply ≢ replies.Refused refusals.NoMemory → (reply ≡ replies.Refused (end_of_kind kind)) × (t ≡ s)
reads_end told s t client number cursor kind reply valid whole given step memory =
    comes_to_end told s t client (read_on kind number cursor) given.area given.at (cursor_of_kind given.area cursor kind) kind reply whole step memory
    (refused_so s client number cursor given.area kind given.area_there) given.cursor_there given.same_kind
    (next_is s given.area given.at kind given.same_kind ∙ leads_nowhere s given.area.stream kind given.at.last valid given.gives)

-- Reading on and on: as many replies as there are members that come first, and then one that tells the end.
pub reads_all : (told : Bool) (s t : State) (client number cursor : ℕ) (kind : CursorKind) (entries : List LogEntry) (answers : List Reply) (last : Reply)
    → IsValid s → s.broken ≡ false → StillGives s client number cursor kind entries
    → Repeats told s client (read_on kind number cursor) (answers ++ last ∷ []) t → length answers ≡ length entries
    → AllZip (λ (entry : LogEntry) (reply : Reply). IsReply told (flushed s) (replies.Next entry) reply) entries answers × (last ≡ replies.Refused (end_of_kind kind))
reads_all told s t client number cursor kind [] [] last valid whole given runs long =
    (tt, (reads_end told s runs.0 client number cursor kind last valid whole given runs.1 runs.2).0)
reads_all told s t client number cursor kind [] (reply ∷ answers) last valid whole given runs long = absurd (omega (arith, long))
reads_all told s t client number cursor kind (entry ∷ entries) [] last valid whole given runs long = absurd (omega (arith, long))
reads_all told s t client number cursor kind (entry ∷ entries) (reply ∷ answers) last valid whole given runs long =
    let next = gives_next told s runs.0 client number cursor kind entry entries reply valid whole given runs.1 runs.2 in
    let shorter : length answers ≡ length entries = omega (arith, long) in
    let rest = reads_all told runs.0 t client number cursor kind entries answers last next.valid (next.whole ∙ whole) next.gives runs.3 shorter in
    let F : ℕ → Type 0 = λ stable. AllZip (λ (e : LogEntry) (r : Reply). IsReply told stable (replies.Next e) r) entries answers in
    ((next.replied, subst F next.stable rest.0), rest.1)

-- the start of the log is what links come to
start_is : (mode : Mode) → mode ≢ Forward → end_of_mode mode ≡ refusals.StartOfLog
start_is Previous links = refl
start_is UndoNext links = refl
start_is Forward links = absurd (links refl)

pub reads_start : (told : Bool) (s t : State) (client number cursor : ℕ) (mode : Mode) (reply : Reply) → IsValid s
    → s.broken ≡ false → mode ≢ Forward → StillGives s client number cursor (Records mode) []
    → Step told s client (calls.ReadNext number cursor) Fine reply t
    → reply ≢ replies.Refused refusals.NoMemory → (reply ≡ replies.Refused refusals.StartOfLog) × (t ≡ s)
reads_start told s t client number cursor mode reply valid whole links given step memory =
    let end = reads_end told s t client number cursor (Records mode) reply valid whole given step memory in
    (end.0 ∙ ap (λ given. replies.Refused given) (start_is mode links), end.1)

restart_by : (told : Bool) (s t : State) (client number : ℕ) (area : Area) (cursor : ℕ) (read : LogEntry) (all : List LogEntry) → IsValid s
    → area_of s client number ≡ Some area → restart_areas s area.stream ≡ all
    → Comes told (flushed s) (option_map_or (found_with_cursor s area RestartAreas) (slice_get all 0) (outcome (replies.Refused refusals.NoRestart) s))
    (replies.Found cursor read) t
    → FindsFirst told (flushed s) t client number cursor read RestartAreas (restart_areas s area.stream)
restart_by told s t client number area cursor read [] valid there all comes = absurd (no_record told (flushed s) refusals.NoRestart cursor read comes.0)
restart_by told s t client number area cursor read (entry ∷ rest) valid there all comes =
    let falling : Falls (entry ∷ rest) = subst Falls all (restarts_fall s area.stream valid) in
    let to_come : still_to_come s area.stream RestartAreas entry.lsn ≡ rest = ap (below_lsn entry.lsn) all ∙ below_first entry rest falling in
    finds_first told s t client number area cursor read RestartAreas entry _ rest there all to_come comes

-- a read of restart areas that found one
pub restart_first : (told : Bool) (s t : State) (client number : ℕ) (area : Area) (cursor : ℕ) (read : LogEntry) → IsValid s
    → area_of s client number ≡ Some area → Step told s client (calls.ReadRestart number) Fine (replies.Found cursor read) t
    → FindsFirst told (flushed s) t client number cursor read RestartAreas (restart_areas s area.stream)
restart_first told s t client number area cursor read valid there step =
    let comes = (done told s t client (calls.ReadRestart number) (replies.Found cursor read) (λ given e. absurd (cc)) step).1 in
    restart_by told s t client number area cursor read (restart_areas s area.stream) valid there refl
    (comes_as told (flushed s) (answer s client (calls.ReadRestart number)) (read_newest_restart s area) (replies.Found cursor read) t
    (over_area_is s (λ (a : Area). read_newest_restart s a) (area_of s client number) area there) comes)

-- a read of restart areas where there is none
pub restart_none : (told : Bool) (s t : State) (client number : ℕ) (area : Area) (reply : Reply) → IsValid s → s.broken ≡ false
    → area_of s client number ≡ Some area → restart_areas s area.stream ≡ [] → Step told s client (calls.ReadRestart number) Fine reply t
    → reply ≢ replies.Refused refusals.NoMemory → (reply ≡ replies.Refused refusals.NoRestart) × (t ≡ s)
restart_none told s t client number area reply valid whole there none step memory =
    fine_refused told s t client (calls.ReadRestart number) reply refusals.NoRestart whole step memory
    (in_area_is (λ (a : Area). refused_if (is_none (newest_restart s a.stream)) refusals.NoRestart (too_many_cursors a)) (area_of s client number) area there
    ∙ ap (λ (all : List LogEntry). refused_if (is_none (slice_get all 0)) refusals.NoRestart (too_many_cursors area)) none)
