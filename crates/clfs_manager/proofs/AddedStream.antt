-- A log with a stream more, in memory and on the disk.
use Rattle.clfs_manager.proofs.Words.{◌≡◌, ℕ, zero, suc, ◌+◌, ◌-◌, ◌<◌, ◌≤◌, Bool, true, false, refl, sym, ap, subst, ◌∙◌, inl, inr, List, [], ◌∷◌, ◌++◌}
use Rattle.clfs_manager.proofs.Words.{length, map, arith, Option, Some, None, Result, Ok, Err, IfOk, IfErr, filter, slice_get, if◌then◌else◌, ◌&&◌, ◌==◌}
use Rattle.clfs_manager.proofs.Words.{nat_le, nat_lt, not, is_none, option_map_or, option_to_list, cases_Bool, nat_tests, null_lsn, container_of, least_or}
use Rattle.clfs_manager.proofs.Words.{frontier, LogEntry, Stream, DiskState, IsName, row_in, BaseImage, Row, Refusal, Fine, State, Outcome, answer, outcome}
use Rattle.clfs_manager.proofs.Words.{block_start, heads_of, AreSealed, Tabled, Holds, hold, is_live, base_of, open_refusal, refusal, refused_if}
use Rattle.clfs_manager.proofs.Words.{stream_number, stream_number_from, Step, GoesTheseWays, Buffered, Blocks, streams_with, IsLogWith, stored_state, Steps}
use Rattle.clfs_manager.proofs.Words.{IsManaged, IsStored, AreKept, IsNotAdded, with_stream, IsIntact, Log}
use Rattle.std.specs.List.{list_all, position_or_len}
use Rattle.std.specs.Str.{bytes_eq}
use Rattle.std.proofs.lemmas.Slice.Eq.{bytes_eq-Decides}
use Rattle.clfs_lsn.specs.Limits.{longest_name, most_streams}
use Rattle.clfs_lsn.specs.Names.{is_name_byte}
use Rattle.clfs_model.specs.declared.call.Call.TheVariants as calls
use Rattle.clfs_model.specs.declared.refusal.Refusal.TheVariants as refusals
use Rattle.clfs_model.specs.declared.reply.Reply.TheVariants as replies
use Rattle.clfs_tables.specs.Tables.{HasSame}
use Rattle.clfs_model.specs.Refusals.{name_fault}
use Rattle.clfs_manager.proofs.FlushKeeps.{ReopensStorable, ReopensValid, managed_broken}
use Rattle.clfs_manager.proofs.Intact.{managed_intact}

-- ---- the name

-- where none is found to fail all pass
all_pass : (p : ℕ → Bool) (xs : List ℕ) → length xs ≤ position_or_len (λ x. not (p x)) xs → list_all p xs ≡ true
all_pass p [] long = refl
all_pass p (x ∷ xs) long = elim (cases_Bool (p x)) [
  | inl passes ↦
      let rest : suc (length xs) ≤ 1 + position_or_len (λ y. not (p y)) xs = rw passes at long in
      rw passes (all_pass p xs (omega (arith, rest)))
  | inr fails ↦
      let none : suc (length xs) ≤ 0 = rw fails at long in
      absurd (omega (arith, none))
]

-- A legal name is one that a copy can have.
pub is_name : (name : List ℕ) → name_fault name ≡ None → IsName longest_name name
is_name name legal = by_empty (length name == 0) refl
  where
    bad : ℕ
    bad = position_or_len (λ b. not (is_name_byte b)) name

    long : (length name == 0) ≡ false → (nat_lt bad (length name) && nat_lt bad longest_name) ≡ false → (b : Bool) → nat_lt longest_name (length name) ≡ b
        → (if b then Some longest_name else None) ≡ None → IsName longest_name name
    long some fine true is none = absurd (cc none)
    long some fine false is none = record {
      some = grind (arith, nat_tests, some);
      few = grind (arith, nat_tests, is);
      bytes = all_pass is_name_byte name (grind (arith, nat_tests, fine, is));
    }

    by_bad : (length name == 0) ≡ false → (b : Bool) → (nat_lt bad (length name) && nat_lt bad longest_name) ≡ b
        → (if b then Some bad else if nat_lt longest_name (length name) then Some longest_name else None) ≡ None → IsName longest_name name
    by_bad some true is none = absurd (cc none)
    by_bad some false is none = long some is (nat_lt longest_name (length name)) refl none

    by_empty : (b : Bool) → (length name == 0) ≡ b → IsName longest_name name
    by_empty true is = absurd (let fault : Some 0 ≡ None = rw is at legal in cc fault)
    by_empty false is = by_bad is (nat_lt bad (length name) && nat_lt bad longest_name) refl (rw is at legal)

-- Where a stream may be opened that isn't there, its name is legal and there is room for it.
pub open_allowed : (s : State) (name : List ℕ) → open_refusal s name ≡ None → stream_number s name ≡ None
    → (name_fault name ≡ None) × (length s.streams < most_streams)
open_allowed s name allowed none = by_fault (name_fault name) refl
  where
    full : Refusal
    full = refusals.StreamLimit (length s.streams)

    single : Bool
    single = s.dedicated && nat_le 1 (length s.streams)

    -- what is refused after the name
    rest : Option ℕ → Option Refusal
    rest found = refused_if (is_none found && single) refusals.Dedicated (refused_if (is_none found && nat_le most_streams (length s.streams)) full None)

    by_long : (b : Bool) → nat_le most_streams (length s.streams) ≡ b → refused_if (true && b) full None ≡ None → length s.streams < most_streams
    by_long true is refused = absurd (cc refused)
    by_long false is refused = grind (arith, nat_tests, is)

    by_single : (b : Bool) → refused_if (true && b) refusals.Dedicated (refused_if (true && nat_le most_streams (length s.streams)) full None) ≡ None
        → length s.streams < most_streams
    by_single true refused = absurd (cc refused)
    by_single false refused = by_long (nat_le most_streams (length s.streams)) refl refused

    by_fault : (o : Option ℕ) → name_fault name ≡ o → (name_fault name ≡ None) × (length s.streams < most_streams)
    by_fault (Some at) is =
        let refused : Some (refusals.NameInvalid at) ≡ None =
        subst (λ (o : Option ℕ). option_map_or (λ at. Some (refusals.NameInvalid at)) o (rest (stream_number s name)) ≡ None) is allowed in
        absurd (cc refused)
    by_fault None is =
        let passed : rest (stream_number s name) ≡ None =
        subst (λ (o : Option ℕ). option_map_or (λ at. Some (refusals.NameInvalid at)) o (rest (stream_number s name)) ≡ None) is allowed in
        (is, by_single single (subst (λ (o : Option ℕ). rest o ≡ None) none passed))

-- No row has a name that no stream has.
pub no_row : (rows : List Row) (bases : List ℕ) (number : ℕ) (name : List ℕ) → length (streams_with rows bases) ≡ length rows
    → stream_number_from number name (streams_with rows bases) ≡ None → (i : ℕ) → i < length rows → (row_in rows i).name ≡ name → ⊥
no_row [] bases number name long none i within same = omega (arith, within)
no_row (row ∷ rows) [] number name long none i within same = omega (arith, long)
no_row (row ∷ rows) (base ∷ bases) number name long none zero within same =
    let is : bytes_eq row.name name ≡ true = (bytes_eq-Decides row.name name).1 same in
    let some : Some number ≡ None = rw is at none in
    cc some
no_row (row ∷ rows) (base ∷ bases) number name long none (suc i) within same = elim (cases_Bool (bytes_eq row.name name)) [
  | inl is ↦ absurd (let some : Some number ≡ None = rw is at none in cc some)
  | inr isnt ↦
      let rest : stream_number_from (number + 1) name (streams_with rows bases) ≡ None = rw isnt at none in
      no_row rows bases (number + 1) name (omega (arith, long)) rest i (omega (arith, within)) same
]

-- ---- the copy

-- a copy with one row more, which has no base, and another turn, of the version that is written
abbrev pub added : List ℕ → ℕ → BaseImage → BaseImage
added name turn image = record image { version = 2; turn = turn; streams = image.streams ++ record { name = name; base = null_lsn } ∷ [] }

-- Of a state that is stored there is a stream more, in the copy too.
pub stream_stored : (s : State) (slot : ℕ) (image : BaseImage) (blocks : Blocks) (name : List ℕ)
    → (stored : IsStored s (record { slot = slot; image = image }) blocks) → image.first ≤ container_of (hold (with_stream name s))
    → IsLogWith (record image { streams = image.streams ++ record { name = name; base = null_lsn } ∷ [] }) (map blocks image.files) stored.entries
    → stored_state (record image { streams = image.streams ++ record { name = name; base = null_lsn } ∷ [] }) (map blocks image.files) stored.entries s.buffers
    ≡ record (stored_state image (map blocks image.files) stored.entries s.buffers) {
      streams = (stored_state image (map blocks image.files) stored.entries s.buffers).streams ++ record { name = name; base = null_lsn } ∷ [];
    }
    → IsStored (with_stream name s) (record { slot = slot; image = record image { streams = image.streams ++ record { name = name; base = null_lsn } ∷ [] } }) blocks
stream_stored s slot image blocks name stored low log state = record {
  entries = stored.entries;
  log = log;
  records = stored.records;
  state = state ∙ ap (λ (u : State). record u { streams = u.streams ++ record { name = name; base = null_lsn } ∷ [] }) stored.state;
  needed = low;
}

-- the bases of streams are as before
base_added : (streams : List Stream) (name : List ℕ) (place : ℕ)
    → option_map_or (λ (stream : Stream). stream.base) (slice_get (streams ++ record { name = name; base = null_lsn } ∷ []) place) null_lsn
    ≡ option_map_or (λ (stream : Stream). stream.base) (slice_get streams place) null_lsn
base_added [] name zero = refl
base_added [] name (suc place) = refl
base_added (stream ∷ streams) name zero = refl
base_added (stream ∷ streams) name (suc place) = base_added streams name place

base_stays : (s : State) (name : List ℕ) (number : ℕ) → base_of (with_stream name s) number ≡ base_of s number
base_stays s name number = elim (cases_Bool (number == 0)) [
  | inl none ↦ rw none refl
  | inr some ↦ rw some (base_added s.streams name (number - 1))
]

live_stays : (s : State) (name : List ℕ) (records : List LogEntry) → filter (is_live (with_stream name s)) records ≡ filter (is_live s) records
live_stays s name [] = refl
live_stays s name (entry ∷ records) =
    let same : is_live (with_stream name s) entry ≡ is_live s entry = ap (λ (base : ℕ). nat_le base entry.lsn) (base_stays s name entry.stream) in
    rw same (ap (λ (rest : List LogEntry). if is_live s entry then entry ∷ rest else rest) (live_stays s name records))

-- so the hold is
pub hold_added : (s : State) (name : List ℕ) → hold (with_stream name s) ≡ hold s
hold_added s name =
    ap (λ (live : List LogEntry). least_or (frontier s.place) (option_to_list s.archive ++ map (λ (entry : LogEntry). entry.lsn) live)) (live_stays s name s.records)

-- a log with room for a stream more is the same log
pub intact_reserved : (disk : DiskState) (log : Log) (tables : Tabled) → HasSame log.tables tables → IsIntact disk log
    → IsIntact disk (record log { tables = tables })
intact_reserved disk log tables same intact =
    let sound = intact.sound in
    let holds = sound.holds in
    let opened = intact.opened in
    let s : State = log.state.value in
    let memory : Holds s (record log { tables = tables }) = record {
      shape = holds.shape;
      buffers = holds.buffers;
      place = holds.place;
      waiting = holds.waiting;
      records = holds.records;
      streams = same.streams ∙ holds.streams;
      heads = same.heads ∙ holds.heads;
      low = omega (arith, same.low, holds.low);
      areas = holds.areas;
      archive = holds.archive;
      sealed = subst (λ (n : ℕ). AreSealed n (block_start s.place) log.archive.blocks (heads_of s)) (sym same.low) holds.sealed;
      room = holds.room;
      policies = holds.policies;
      containers = holds.containers;
      image_shape = holds.image_shape;
      dedicated = holds.dedicated;
      rows = holds.rows;
      listed = holds.listed;
      needed = holds.needed;
    } in
    record {
      sound = record { valid = sound.valid; storable = sound.storable; unbroken = sound.unbroken; whole = sound.whole; holds = memory };
      opened = record {
        memory = memory;
        blocks = opened.blocks;
        stored = opened.stored;
        files = opened.files;
        kept = opened.kept;
        settled = opened.settled;
        forgotten = record { low = omega (arith, same.low, opened.forgotten.low); ends = rw same.low opened.forgotten.ends };
      };
    }

-- the blocks that are kept are the state's still
pub kept_added : (s : State) (name : List ℕ) (kept : Buffered) → AreKept s kept → AreKept (with_stream name s) kept
kept_added s name kept are = record { stable = are.stable; records = are.records }

-- ---- the call

-- what the machine answers where no stream has the name
pub new_answer : (s : State) (client : ℕ) (name : List ℕ) → stream_number s name ≡ None
    → answer s client (calls.OpenStream name) ≡ outcome (replies.Stream (length s.streams + 1)) (with_stream name s)
new_answer s client name none = ap (λ (o : Option ℕ). option_map_or (λ number. outcome (replies.Stream number) s) o
    (outcome (replies.Stream (length s.streams + 1)) (with_stream name s))) none

-- and where one has it
pub old_answer : (s : State) (client number : ℕ) (name : List ℕ) → stream_number s name ≡ Some number
    → answer s client (calls.OpenStream name) ≡ outcome (replies.Stream number) s
old_answer s client number name some = ap (λ (o : Option ℕ). option_map_or (λ number. outcome (replies.Stream number) s) o
    (outcome (replies.Stream (length s.streams + 1)) (with_stream name s))) some

-- Opening a stream of a new name, as a step.
pub new_step : GoesTheseWays → (s : State) (client : ℕ) (name : List ℕ) → s.broken ≡ false → refusal s client (calls.OpenStream name) ≡ None
    → stream_number s name ≡ None → Step false s client (calls.OpenStream name) Fine (replies.Stream (length s.streams + 1)) (with_stream name s)
new_step ways s client name whole allowed none =
    let is = new_answer s client name none in
    ways.answered false s client (calls.OpenStream name) (replies.Stream (length s.streams + 1)) (with_stream name s) whole allowed
    (sym (ap (λ (o : Outcome). o.reply) is)) (sym (ap (λ (o : Outcome). o.state) is))

-- A stream that was to be added: a step of the machine.
pub added_step : GoesTheseWays → (told : Bool) (disk : DiskState) (old new : Log) (client : ℕ) (name : List ℕ) (result : Result ℕ Refusal)
    → old.state.value.broken ≡ false → refusal old.state.value client (calls.OpenStream name) ≡ None → stream_number old.state.value name ≡ None
    → IfOk result (λ number. number ≡ length old.state.value.streams + 1) → IfOk result (λ _. new.state.value ≡ with_stream name old.state.value)
    → IfErr result (λ given. IsNotAdded given disk old new)
    → Steps told old.state.value client (calls.OpenStream name) replies.Stream result new.state.value
added_step ways told disk old new client name (Ok number) whole allowed none of_number state refused =
    let is = new_answer old.state.value client name none in
    ways.answered told old.state.value client (calls.OpenStream name) (replies.Stream number) new.state.value whole allowed
    (ap replies.Stream of_number ∙ sym (ap (λ (o : Outcome). o.reply) is)) (state ∙ sym (ap (λ (o : Outcome). o.state) is))
added_step ways told disk old new client name (Err refusals.NoMemory) whole allowed none of_number state refused =
    let s : State = old.state.value in
    subst (λ (t : State). Steps told s client (calls.OpenStream name) replies.Stream (Err refusals.NoMemory) t) (sym refused.0)
    (ways.no_memory told s client (calls.OpenStream name) _ whole refl)
added_step ways told disk old new client name (Err refusals.DiskFault) whole allowed none of_number state refused =
    let s : State = old.state.value in
    subst (λ (t : State). Steps told s client (calls.OpenStream name) replies.Stream (Err refusals.DiskFault) t) (sym refused.state)
    (ways.faulted told s client (calls.OpenStream name) whole allowed (rw none refl))
added_step ways told disk old new client name (Err _) whole allowed none of_number state refused = absurd refused

-- and it leaves a manager
pub managed_added : (old new : DiskState) (before after : Log) (result : Result ℕ Refusal) → ReopensValid → ReopensStorable → IsManaged old before
    → before.broken ≡ false → IfOk result (λ _. IsIntact new after) → IfErr result (λ given. IsNotAdded given new before after) → IsManaged new after
managed_added old new before after (Ok number) valid storable managed unbroken intact refused = managed_intact new after intact
managed_added old new before after (Err refusals.NoMemory) valid storable managed unbroken intact refused = managed_intact new after refused.1
managed_added old new before after (Err refusals.DiskFault) valid storable managed unbroken intact refused =
    managed_broken old new before after valid storable managed unbroken refused
managed_added old new before after (Err _) valid storable managed unbroken intact refused = absurd refused
