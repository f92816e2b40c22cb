-- The calls that read, as steps of the log machine.
use Rattle.clfs_manager.proofs.Words.{◌≡◌, ℕ, Bool, true, false, refl, sym, ap, ◌∙◌, subst, inr, List, ◌⊎◌, IsTrue, IfOk, MatchBool, option_map_or}
use Rattle.clfs_manager.proofs.Words.{option_and_then, DiskState, Head, LogEntry, Call, Mode, Refusal, Happened, Fine, Fault, Reply, State, Area, Cursor}
use Rattle.clfs_manager.proofs.Words.{CursorKind, Records, RestartAreas, Outcome, outcome, answer, flushed, happened_of_refusal, live_at, newest_restart}
use Rattle.clfs_manager.proofs.Words.{record_cursor, restart_cursor, next_of_cursor, with_cursor, with_cursor_at, refusal, area_of, change_area, Step}
use Rattle.clfs_manager.proofs.Words.{IsBroken, IsOutOfMemory, takes_memory, reads_disk, calls_disk, GoesTheseWays, is_of_call, Steps, area_at, IsReadAs}
use Rattle.clfs_manager.proofs.Words.{LeavesState, Reaches, GetsRecord, Log}
use Rattle.std.proofs.Common.{Option, Some, None, Result, Ok, Err}
use Rattle.std.specs.Prelude.{MatchOption}
use Rattle.clfs_model.specs.declared.call.Call.TheVariants as calls
use Rattle.clfs_model.specs.declared.refusal.Refusal.TheVariants as refusals
use Rattle.clfs_model.specs.declared.reply.Happened.TheVariants.{Damage}
use Rattle.clfs_model.specs.declared.reply.Reply.TheVariants as replies
use Rattle.clfs_model.specs.Answers.{found_with_cursor, read_at, read_newest_restart, moved_on}
use Rattle.clfs_lsn.specs.Cursors.{unused_cursor}
use Rattle.clfs_model.specs.Step.{IsReply, Comes, Goes}
use Rattle.clfs_manager.proofs.Reached.{live_is_needed}

-- ---- refusals

-- a refusal of a call's own list tells nothing of the disk
pub own_is_fine : (given : Refusal) → is_of_call given ≡ true → happened_of_refusal given ≡ Fine
own_is_fine refusals.DiskFault own = absurd (cc own)
own_is_fine (refusals.Damaged container offset at) own = absurd (cc own)
own_is_fine _ own = refl

-- the first refusal is answered
pub refused_step : GoesTheseWays → (told : Bool) (s : State) (client : ℕ) (call : Call) (first : Refusal) → s.broken ≡ false → refusal s client call ≡ Some first
    → is_of_call first ≡ true → Step told s client call (happened_of_refusal first) (replies.Refused first) s
refused_step ways told s client call first whole is own =
    subst (λ (happened : Happened). Step told s client call happened (replies.Refused first) s) (sym (own_is_fine first own))
    (ways.refused told s client call first whole is)

-- a record isn't got
pub failed_step : GoesTheseWays → (told : Bool) (s t : State) (client : ℕ) (call : Call) (given : Refusal) → s.broken ≡ false → refusal s client call ≡ None
    → takes_memory call ≡ true → calls_disk s call ≡ true → reads_disk call ≡ true → LeavesState given s t
    → Step told s client call (happened_of_refusal given) (replies.Refused given) t
failed_step ways told s t client call refusals.NoMemory whole none memory disk reads leaves =
    subst (Step told s client call Fine (replies.Refused refusals.NoMemory)) (sym leaves) (ways.no_memory told s client call Fine whole memory)
failed_step ways told s t client call refusals.DiskFault whole none memory disk reads leaves =
    subst (Step told s client call Fault (replies.Refused refusals.DiskFault)) (sym leaves) (ways.faulted told s client call whole none disk)
failed_step ways told s t client call (refusals.Damaged container offset at) whole none memory disk reads leaves =
    subst (Step told s client call Damage (replies.Refused (refusals.Damaged container offset at))) (sym leaves)
    (ways.damaged told s client call (replies.Refused (refusals.Damaged container offset at)) whole none reads tt)
failed_step ways told s t client call _ whole none memory disk reads leaves = absurd leaves

-- of a pair whose state is broken so is that of an equal one
pub broken_in : {A : Type 0} (v w : State × A) → v ≡ w → v.0.broken ≡ true → w.0.broken ≡ true
broken_in {A} v w same broken = subst (λ (x : State × A). x.0.broken ≡ true) same broken

-- ---- answers

-- an answer that hands out a record as it may be read
given_step : (told : Bool) (s t : State) (client : ℕ) (call : Call) (out : Outcome) (reply : Reply) → s.broken ≡ false → refusal s client call ≡ None
    → answer s client call ≡ out → IsReply told (flushed s) out.reply reply → t ≡ out.state → Step told s client call Fine reply t
unfolding Step
given_step told s t client call out reply whole none is read state =
    let comes : Comes told (flushed s) (answer s client call) reply t = subst (λ (o : Outcome). Comes told (flushed s) o reply t) (sym is) (read, state) in
    let goes : Goes told s client call Fine reply t = subst (λ (o : Option Refusal). MatchOption o (Comes told (flushed s) (answer s client call) reply t)
    (λ (first : Refusal). (reply ≡ replies.Refused first) × (t ≡ s))) (sym none) comes in
    subst (λ (b : Bool). MatchBool b (IsBroken s reply t) ((IsTrue (takes_memory call) × IsOutOfMemory s reply t) ⊎ Goes told s client call Fine reply t))
    (sym whole) (inr goes)

found_reply : (told : Bool) (stable cursor number : ℕ) (entry read : LogEntry) → number ≡ cursor → IsReadAs told stable entry read
    → IsReply told stable (replies.Found cursor entry) (replies.Found number read)
found_reply true stable cursor number entry read at is = λ i. replies.Found (at i) (is i)
found_reply false stable cursor number entry read at is = (read, (is, ap (λ (n : ℕ). replies.Found n read) at))

next_reply : (told : Bool) (stable : ℕ) (entry read : LogEntry) → IsReadAs told stable entry read → IsReply told stable (replies.Next entry) (replies.Next read)
next_reply true stable entry read is = ap replies.Next is
next_reply false stable entry read is = (read, (is, refl))

module _ {D : Type 0} {shown : D → DiskState} {client number : ℕ} {record_in : Area → Option LogEntry} {areas : List Area} {place : ℕ} {head : Head} {after : Log} {old new : D}
    (ways : GoesTheseWays) (s : State) (call : Call) (whole : s.broken ≡ false) (none : refusal s client call ≡ None) (memory : takes_memory call ≡ true)
    (disk : calls_disk s call ≡ true) (reads : reads_disk call ≡ true) (there : Reaches s areas client number place head record_in) where
  -- a call that makes a cursor
  pub found_step : (kind : CursorKind) (result : Result (ℕ × LogEntry) Refusal) → answer s client call ≡ found_with_cursor s (area_at place areas) kind there.entry
      → GetsRecord shown (λ (found : ℕ × LogEntry). found.1) s head result after old new → IfOk result (λ found. found.0 ≡ unused_cursor (area_at place areas).cursors)
      → IfOk result (λ found. after.state.value
      ≡ change_area (with_cursor (record { number = found.0; kind = kind; last = head.lsn })) (area_at place areas).client (area_at place areas).number s)
      → Steps (shown old).nature.tells_contents s client call (λ (found : ℕ × LogEntry). replies.Found found.0 found.1) result after.state.value
  found_step kind (Err given) answers gets number state = failed_step ways _ s after.state.value client call given whole none memory disk reads gets.state
  found_step kind (Ok found) answers gets number state =
      let here = area_at place areas in
      given_step (shown old).nature.tells_contents s after.state.value client call (found_with_cursor s here kind there.entry) (replies.Found found.0 found.1) whole none answers
      (found_reply (shown old).nature.tells_contents (flushed s) (unused_cursor here.cursors) found.0 there.entry found.1 number
      (gets.read there.entry (live_is_needed s here.stream there.entry there.live) there.head_is))
      (state ∙ (λ i. change_area (with_cursor (record { number = number i; kind = kind; last = (sym there.head_is i).lsn })) here.client here.number s))

  -- a call that moves one
  pub next_step : (cursor : ℕ) (result : Result LogEntry Refusal)
      → answer s client call ≡ outcome (replies.Next there.entry) (change_area (with_cursor_at cursor there.entry.lsn) (area_at place areas).client (area_at place areas).number s)
      → GetsRecord shown (λ (found : LogEntry). found) s head result after old new
      → IfOk result (λ found. after.state.value ≡ change_area (with_cursor_at cursor head.lsn) (area_at place areas).client (area_at place areas).number s)
      → Steps (shown old).nature.tells_contents s client call replies.Next result after.state.value
  next_step cursor (Err given) answers gets state = failed_step ways _ s after.state.value client call given whole none memory disk reads gets.state
  next_step cursor (Ok found) answers gets state =
      let here = area_at place areas in
      given_step (shown old).nature.tells_contents s after.state.value client call
      (outcome (replies.Next there.entry) (change_area (with_cursor_at cursor there.entry.lsn) here.client here.number s)) (replies.Next found) whole none answers
      (next_reply (shown old).nature.tells_contents (flushed s) there.entry found (gets.read there.entry (live_is_needed s here.stream there.entry there.live) there.head_is))
      (state ∙ (λ i. change_area (with_cursor_at cursor (sym there.head_is i).lsn) here.client here.number s))

-- ---- what the machine answers

module _ (s : State) (client number : ℕ) (area : Area) (entry : LogEntry) (there : area_of s client number ≡ Some area) where
  over : (rest : Area → Outcome) → option_map_or rest (area_of s client number) (outcome (replies.Refused refusals.NoSuchArea) s) ≡ rest area
  over rest = ap (λ (o : Option Area). option_map_or rest o (outcome (replies.Refused refusals.NoSuchArea) s)) there

  pub read_answers : (lsn : ℕ) (mode : Mode) → live_at s area.stream lsn ≡ Some entry
      → answer s client (calls.Read number lsn mode) ≡ found_with_cursor s area (Records mode) entry
  read_answers lsn mode is = over (λ (a : Area). read_at s a lsn mode)
      ∙ ap (λ (o : Option LogEntry). option_map_or (found_with_cursor s area (Records mode)) o (outcome (replies.Refused (refusals.RecordNonexistent lsn)) s)) is

  pub restart_answers : newest_restart s area.stream ≡ Some entry → answer s client (calls.ReadRestart number) ≡ found_with_cursor s area RestartAreas entry
  restart_answers is = over (λ (a : Area). read_newest_restart s a)
      ∙ ap (λ (o : Option LogEntry). option_map_or (found_with_cursor s area RestartAreas) o (outcome (replies.Refused refusals.NoRestart) s)) is

  moved : (cursor : ℕ) (found : Option Cursor) → option_and_then (next_of_cursor s area) found ≡ Some entry
      → moved_on s area cursor found ≡ outcome (replies.Next entry) (change_area (with_cursor_at cursor entry.lsn) area.client area.number s)
  moved cursor found is = ap (λ (o : Option LogEntry). option_map_or
      (λ (e : LogEntry). outcome (replies.Next e) (change_area (with_cursor_at cursor e.lsn) area.client area.number s)) o
      (outcome (replies.Refused refusals.NoSuchCursor) s)) is

  pub next_answers : (cursor : ℕ) → option_and_then (next_of_cursor s area) (record_cursor area cursor) ≡ Some entry
      → answer s client (calls.ReadNext number cursor) ≡ outcome (replies.Next entry) (change_area (with_cursor_at cursor entry.lsn) area.client area.number s)
  next_answers cursor is = over (λ (a : Area). moved_on s a cursor (record_cursor a cursor)) ∙ moved cursor (record_cursor area cursor) is

  pub previous_answers : (cursor : ℕ) → option_and_then (next_of_cursor s area) (restart_cursor area cursor) ≡ Some entry
      → answer s client (calls.PreviousRestart number cursor) ≡ outcome (replies.Next entry) (change_area (with_cursor_at cursor entry.lsn) area.client area.number s)
  previous_answers cursor is = over (λ (a : Area). moved_on s a cursor (restart_cursor a cursor)) ∙ moved cursor (restart_cursor area cursor) is
