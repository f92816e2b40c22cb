-- A read finds its record where a chain begins there and the area has a free cursor.
use Rattle.clfs_laws.proofs.Words.{◌≡◌, ◌≢◌, ℕ, zero, suc, ◌<◌, Bool, true, false, refl, ap, ◌∙◌, List, ◌∷◌, length, Option, Some, None, is_none, slice_get}
use Rattle.clfs_laws.proofs.Words.{option_map_or, LogEntry, Call, Mode, Refusal, Fine, Reply, State, Area, CursorKind, Records, RestartAreas, area_of}
use Rattle.clfs_laws.proofs.Words.{live_at, flushed, chain, chain_from, newest_restart, restart_areas, refusal, refused_if, read_refusal, too_many_cursors}
use Rattle.clfs_laws.proofs.Words.{outcome, answer, found_with_cursor, read_at, read_newest_restart, Step, IsReply}
use Rattle.std.proofs.lemmas.Bool.{lt-leb}
use Rattle.clfs_model.specs.declared.call.Call.TheVariants as calls
use Rattle.clfs_model.specs.declared.refusal.Refusal.TheVariants as refusals
use Rattle.clfs_model.specs.declared.reply.Reply.TheVariants as replies
use Rattle.clfs_laws.proofs.FineSteps.{fine_answered, comes_as}
use Rattle.clfs_laws.proofs.ReadCalls.{in_area_is, over_area_is}

-- a reply that hands out a record and a new cursor
abbrev pub IsFound : Reply → Type 0
IsFound reply = (cursor : ℕ) × (read : LogEntry) × (reply ≡ replies.Found cursor read)

found_so : (told : Bool) (stable cursor : ℕ) (entry : LogEntry) (reply : Reply) → IsReply told stable (replies.Found cursor entry) reply → IsFound reply
found_so true stable cursor entry reply is = (cursor, entry, is)
found_so false stable cursor entry reply is = (cursor, is.0, is.1.1)

-- an area with a free cursor
free_cursor : (area : Area) → length area.cursors < area.reads → too_many_cursors area ≡ None
free_cursor area free = rw (lt-leb area.reads (length area.cursors) free) refl

-- a chain that has a record begins at a live one
begins : (s : State) (stream : ℕ) (mode : Mode) (more : ℕ) (found : Option LogEntry) (entry : LogEntry) (rest : List LogEntry)
    → chain_from s stream mode more found ≡ entry ∷ rest → (first : LogEntry) × (found ≡ Some first)
begins s stream mode zero found entry rest is = absurd (cc)
begins s stream mode (suc more) None entry rest is = absurd (cc)
begins s stream mode (suc more) (Some first) entry rest is = (first, refl)

-- a call in an area with a free cursor, which comes to a record
finds : (told : Bool) (s t : State) (client number : ℕ) (call : Call) (area : Area) (kind : CursorKind) (found : Option LogEntry) (first : LogEntry)
    (otherwise : Refusal) (reply : Reply) → s.broken ≡ false → found ≡ Some first → length area.cursors < area.reads
    → refusal s client call ≡ refused_if (is_none found) otherwise (too_many_cursors area)
    → answer s client call ≡ option_map_or (found_with_cursor s area kind) found (outcome (replies.Refused otherwise) s)
    → Step told s client call Fine reply t → reply ≢ replies.Refused refusals.NoMemory → IsFound reply
finds told s t client number call area kind found first otherwise reply whole there free refuses answers step memory =
    let passes : refusal s client call ≡ None = refuses ∙ ap (λ (f : Option LogEntry). refused_if (is_none f) otherwise (too_many_cursors area)) there ∙ free_cursor area free in
    let goes : answer s client call ≡ found_with_cursor s area kind first =
    answers ∙ ap (λ (f : Option LogEntry). option_map_or (found_with_cursor s area kind) f (outcome (replies.Refused otherwise) s)) there in
    let comes = comes_as told (flushed s) (answer s client call) (found_with_cursor s area kind first) reply t goes
    (fine_answered told s t client call reply whole step memory passes) in
    found_so told (flushed s) _ first reply comes.0

pub read_finds : (told : Bool) (s t : State) (client number lsn : ℕ) (mode : Mode) (area : Area) (entry : LogEntry) (rest : List LogEntry) (reply : Reply)
    → s.broken ≡ false → area_of s client number ≡ Some area → chain s area.stream lsn mode ≡ entry ∷ rest → length area.cursors < area.reads
    → Step told s client (calls.Read number lsn mode) Fine reply t → reply ≢ replies.Refused refusals.NoMemory → IsFound reply
read_finds told s t client number lsn mode area entry rest reply whole there has free step memory =
    let first = begins s area.stream mode (length s.records) (live_at s area.stream lsn) entry rest has in
    finds told s t client number (calls.Read number lsn mode) area (Records mode) (live_at s area.stream lsn) first.0 (refusals.RecordNonexistent lsn) reply whole first.1 free
    (in_area_is (λ (a : Area). read_refusal s a lsn) (area_of s client number) area there)
    (over_area_is s (λ (a : Area). read_at s a lsn mode) (area_of s client number) area there) step memory

pub restart_finds : (told : Bool) (s t : State) (client number : ℕ) (area : Area) (entry : LogEntry) (rest : List LogEntry) (reply : Reply)
    → s.broken ≡ false → area_of s client number ≡ Some area → restart_areas s area.stream ≡ entry ∷ rest → length area.cursors < area.reads
    → Step told s client (calls.ReadRestart number) Fine reply t → reply ≢ replies.Refused refusals.NoMemory → IsFound reply
restart_finds told s t client number area entry rest reply whole there has free step memory =
    finds told s t client number (calls.ReadRestart number) area RestartAreas (newest_restart s area.stream) entry refusals.NoRestart reply whole
    (ap (λ (all : List LogEntry). slice_get all 0) has) free
    (in_area_is (λ (a : Area). refused_if (is_none (newest_restart s a.stream)) refusals.NoRestart (too_many_cursors a)) (area_of s client number) area there)
    (over_area_is s (λ (a : Area). read_newest_restart s a) (area_of s client number) area there) step memory
