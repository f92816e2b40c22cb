-- Why the calls of a store are refused: each for the first of its reasons.
use Rattle.clfs_cells_laws.proofs.Words.{◌≡◌, ℕ, zero, suc, ◌+◌, ◌*◌, ◌<◌, Bool, true, false, refl, sym, subst, ap, ◌∙◌, inl, inr, arith, List, [], ◌∷◌}
use Rattle.clfs_cells_laws.proofs.Words.{length, Option, Some, None, length-append, ◌≢◌, ◌&&◌, ◌||◌, ◌==◌, if◌then◌else◌, not, MatchOption, is_some, nat_le}
use Rattle.clfs_cells_laws.proofs.Words.{nat_lt, option_map, option_map_or, option_or, cases_Bool, eq-eqb, le-ltb, lt-ltb, ne_eqb, recursion_from_All}
use Rattle.clfs_cells_laws.proofs.Words.{null_lsn, own, LogEntry, Call, LogInfo, Refusal, Happened, Fine, Fault, Damage, Reply, Area, State, Outcome, answer}
use Rattle.clfs_cells_laws.proofs.Words.{info_of, outcome, reserved_for, restarted, flushed, is_live, last_live, live, live_at, hold_sizes, need_of, next_lsn}
use Rattle.clfs_cells_laws.proofs.Words.{full, is_base, refusal, refused_if, restart_refusal, short, too_long, grown, own_sum, base_of, Step, Comes, Goes}
use Rattle.clfs_cells_laws.proofs.Words.{calls_disk, reads_disk, takes_memory, IsRecord, IsValid, TxnCall, TxnRefusal, TxnReply, Answered, TxnStep, answers}
use Rattle.clfs_cells_laws.proofs.Words.{begin_plan, checkpoint_plan, greatest_number, most_transactions, stops, unless, cell_count, checkpoint_bytes}
use Rattle.clfs_cells_laws.proofs.Words.{area_largest, Plan, CarriesOut, on_held, on_info, on_placed, Memory, Store, most_records, with_begun, reads_back}
use Rattle.clfs_cells_laws.proofs.Words.{tells_break, tells_table_broken, tells_table_damage, asks_log, reason_if, table_reason, HasArguments}
use Rattle.clfs_cells_laws.proofs.Words.{for_room_or_outside, from_outside, is_of_log, IsKeptStore, IsStore, sectors_held, store_area}
use Rattle.std.specs.List.{flat_map}
use Rattle.byteorder.specs.Endian.{little_bytes}
use Rattle.clfs_model.specs.declared.call.Call.TheVariants as calls
use Rattle.clfs_model.specs.declared.refusal.Refusal.TheVariants as refusals
use Rattle.clfs_model.specs.declared.reply.Reply.TheVariants as replies
use Rattle.clfs_model.specs.Put.{spent_of}
use Rattle.clfs_model.specs.Refusals.{unless_two_containers}
use Rattle.clfs_cells.specs.declared.asked.TxnCall.TheVariants as asked
use Rattle.clfs_cells.specs.declared.told.TxnRefusal.TheVariants as denials
use Rattle.clfs_cells.specs.declared.told.TxnReply.TheVariants as told_replies
use Rattle.clfs_cells.specs.Plans.{calls as asks}
use Rattle.clfs_cells_laws.specs.Reasons.{IsForReason, first_reason, log_refusal, room_refusal}
use Rattle.clfs_cells_laws.proofs.Ends.{IsDone, Lengths, Out, denied, done, stopped}
use Rattle.clfs_cells_laws.proofs.Loads.{above_null}
use Rattle.clfs_cells_laws.proofs.Newest.{none_last}
use Rattle.clfs_cells_laws.proofs.Opening.{stream_is_there}
use Rattle.clfs_cells_laws.proofs.OtherEnds.{held_as, info_as, lsn_as, reserve_refusal, sectors_are, sizes_of}
use Rattle.clfs_cells_laws.proofs.OwnCalls.{Laws}
use Rattle.clfs_cells_laws.proofs.TableEnds.{or_true}
use Rattle.clfs_cells_laws.proofs.Told.{answer_of, back_ends, broken_step, commit_ends, get_leaves, goes, rollback_ends, set_ends}
use Rattle.clfs_cells_laws.proofs.Undoes.{behind_reply, same_log}
use Rattle.clfs_cells_laws.proofs.Written.{where_not}

-- ---- how a call of the log went, and why

data Met (told : Bool) (s : State) (client : ℕ) (call : Call) (reply : Reply) (t : State) : Type 0 where
  lacked : takes_memory call ≡ true → reply ≡ replies.Refused refusals.NoMemory → Met told s client call reply t
  refused : (first : Refusal) → refusal s client call ≡ Some first → reply ≡ replies.Refused first → Met told s client call reply t
  faulted : calls_disk s call ≡ true → refusal s client call ≡ None → reply ≡ replies.Refused refusals.DiskFault → Met told s client call reply t
  damaged : reads_disk call ≡ true → Met told s client call reply t
  came : refusal s client call ≡ None → Comes told (flushed s) (answer s client call) reply t → Met told s client call reply t

met_fine : (told : Bool) (s : State) (client : ℕ) (call : Call) (reply : Reply) (t : State) (found : Option Refusal) → refusal s client call ≡ found
    → MatchOption found (Comes told (flushed s) (answer s client call) reply t) (λ first. (reply ≡ replies.Refused first) × (t ≡ s))
    → Met told s client call reply t
met_fine told s client call reply t None is comes = came is comes
met_fine told s client call reply t (Some first) is goes_so = refused first is goes_so.0

met_of : (told : Bool) (s : State) (client : ℕ) (call : Call) (happened : Happened) (reply : Reply) (t : State)
    → Goes told s client call happened reply t → Met told s client call reply t
met_of told s client call Fine reply t goes_so = met_fine told s client call reply t (refusal s client call) refl goes_so
met_of told s client call Fault reply t goes_so = faulted goes_so.1.0 goes_so.0 goes_so.1.1.0
met_of told s client call Damage reply t goes_so = damaged goes_so.1.0

met : (told : Bool) (s : State) (client : ℕ) (call : Call) (happened : Happened) (reply : Reply) (t : State) → s.broken ≡ false
    → Step told s client call happened reply t → Met told s client call reply t
unfolding Step
met told s client call happened reply t whole step = elim (where_not s.broken _ _ whole step) [
  | inl lacks ↦ lacked lacks.0 lacks.1.0
  | inr goes_so ↦ met_of told s client call happened reply t goes_so
]

-- ---- the first reason

said : (s : Store) (call : TxnCall) (reply other : TxnReply) → reply ≡ other → IsForReason s call other → IsForReason s call reply
said s call reply other is so = subst (IsForReason s call) (sym is) so

broken_reason : (s : Store) (call : TxnCall) → s.log.broken ≡ true → asks_log call ≡ true → first_reason s call ≡ Some (denials.Log refusals.Broken)
broken_reason s call broken some =
    let others : Option TxnRefusal = option_or (table_reason s.memory call) (option_map denials.Log (log_refusal s.log call)) in
    ap (λ (b : Bool). reason_if (b && asks_log call) (denials.Log refusals.Broken) others) broken ∙ ap (λ (b : Bool). reason_if b (denials.Log refusals.Broken) others) some

whole_reason : (s : Store) (call : TxnCall) → s.log.broken ≡ false
    → first_reason s call ≡ option_or (table_reason s.memory call) (option_map denials.Log (log_refusal s.log call))
whole_reason s call whole =
    ap (λ (b : Bool). reason_if (b && asks_log call) (denials.Log refusals.Broken) (option_or (table_reason s.memory call) (option_map denials.Log (log_refusal s.log call)))) whole

own_first : (s : Store) (call : TxnCall) (given : TxnRefusal) → s.log.broken ≡ false → table_reason s.memory call ≡ Some given → first_reason s call ≡ Some given
own_first s call given whole is =
    whole_reason s call whole ∙ ap (λ (o : Option TxnRefusal). option_or o (option_map denials.Log (log_refusal s.log call))) is

of_log : (s : Store) (call : TxnCall) → s.log.broken ≡ false → table_reason s.memory call ≡ None → first_reason s call ≡ option_map denials.Log (log_refusal s.log call)
of_log s call whole is =
    whole_reason s call whole ∙ ap (λ (o : Option TxnRefusal). option_or o (option_map denials.Log (log_refusal s.log call))) is

passes : (s : Store) (call : TxnCall) → s.log.broken ≡ false → table_reason s.memory call ≡ None → log_refusal s.log call ≡ None → first_reason s call ≡ None
passes s call whole is none = of_log s call whole is ∙ ap (option_map denials.Log) none

-- a reason of the table's own
told_own : (s : Store) (call : TxnCall) (given : TxnRefusal) → is_of_log given ≡ false → first_reason s call ≡ Some given → IsForReason s call (told_replies.Refused given)
told_own s call (denials.Log given) own_one is = absurd (cc own_one)
told_own s call _ own_one is = is

-- a reason of the log, which is one of room
told_room : (s : Store) (call : TxnCall) (few full_up : Bool) (have of_free of_reserved need : ℕ) (first : Refusal)
    → refused_if few (refusals.NotEnoughContainers have) (refused_if full_up (refusals.Full of_free of_reserved need) None) ≡ Some first
    → first_reason s call ≡ Some (denials.Log first) → IsForReason s call (told_replies.Refused (denials.Log first))
told_room s call true full_up have of_free of_reserved need first is so =
    let same : refusals.NotEnoughContainers have ≡ first = cc is in
    subst (λ (r : Refusal). IsForReason s call (told_replies.Refused (denials.Log r))) same (so ∙ ap (λ (r : Refusal). Some (denials.Log r)) (sym same))
told_room s call false true have of_free of_reserved need first is so =
    let same : refusals.Full of_free of_reserved need ≡ first = cc is in
    subst (λ (r : Refusal). IsForReason s call (told_replies.Refused (denials.Log r))) same (so ∙ ap (λ (r : Refusal). Some (denials.Log r)) (sym same))
told_room s call false false have of_free of_reserved need first is so = absurd (cc is)

-- ---- a transaction begins

begin_refusal : {tabled : Bool} → (s : State) (memory : Memory) (changes : ℕ) → IsStore tabled s memory
    → refusal s memory.client (calls.Reserve memory.area (sizes_of changes)) ≡ room_refusal s (most_records changes)
begin_refusal {tabled = tabled} s memory changes store =
    reserve_refusal s memory changes store ∙ ap (λ (n : ℕ). unless_two_containers s (full s n)) (sectors_are changes)

module _ (tabled told : Bool) (s : Store) (changes : ℕ) (reply : TxnReply) (now : Memory) (v : State) (store : IsStore tabled s.log s.memory) where
  abbrev rest : Reply → Plan Answered
  rest = on_held (stops s.memory) (answers (told_replies.Begun (s.memory.last + 1)) (with_begun changes s.memory))

  begin_went : table_reason s.memory (asked.Begin changes) ≡ None → (given : Reply) (mid : State)
      → Met told s.log s.memory.client (calls.Reserve s.memory.area (sizes_of changes)) given mid
      → CarriesOut told s.memory.client mid (on_held (stops s.memory) (answers (told_replies.Begun (s.memory.last + 1)) (with_begun changes s.memory)) given)
      (record { reply = reply; memory = now }) v → IsForReason s (asked.Begin changes) reply
  begin_went clear given mid (lacked takes is) behind =
      let ended = behind_reply told s.memory.client mid rest given (replies.Refused refusals.NoMemory) (record { reply = reply; memory = now }) v is behind in
      said s (asked.Begin changes) reply (told_replies.Refused (denials.Log refusals.NoMemory)) (ap (λ (a : Answered). a.reply) ended.0) (store.whole, clear)
  begin_went clear given mid (refused first by_it is) behind =
      let ended = behind_reply told s.memory.client mid rest given (replies.Refused first) (record { reply = reply; memory = now }) v is behind in
      let at = sym (begin_refusal s.log s.memory changes store) ∙ by_it in
      said s (asked.Begin changes) reply (told_replies.Refused (denials.Log first)) (ap (λ (a : Answered). a.reply) ended.0)
      (told_room s (asked.Begin changes) _ _ s.log.containers _ _ _ first at (of_log s (asked.Begin changes) store.whole clear ∙ ap (option_map denials.Log) at))
  begin_went clear given mid (faulted called none is) behind =
      let ended = behind_reply told s.memory.client mid rest given (replies.Refused refusals.DiskFault) (record { reply = reply; memory = now }) v is behind in
      said s (asked.Begin changes) reply (told_replies.Refused (denials.Log refusals.DiskFault)) (ap (λ (a : Answered). a.reply) ended.0)
      (passes s (asked.Begin changes) store.whole clear (sym (begin_refusal s.log s.memory changes store) ∙ none))
  begin_went clear given mid (damaged reads) behind = absurd (cc reads)
  begin_went clear given mid (came none comes) behind =
      let sizes : List ℕ = sizes_of changes in
      let area : Area = store_area s.memory [] in
      let next : State = hold_sizes area sizes (grown s.log (own_sum sizes)) in
      let held : ℕ = sectors_held s.memory.transactions + own_sum sizes in
      let is : answer s.log s.memory.client (calls.Reserve s.memory.area sizes) ≡ outcome (replies.Held held) next
      = ap (λ (o : Option Area). option_map_or (λ (a : Area). reserved_for s.log a sizes) o (outcome (replies.Refused refusals.NoSuchArea) s.log)) store.area in
      let so : Comes told (flushed s.log) (outcome (replies.Held held) next) given mid = subst (λ (o : Outcome). Comes told (flushed s.log) o given mid) is comes in
      let ended = behind_reply told s.memory.client mid rest given (replies.Held held) (record { reply = reply; memory = now }) v (held_as told (flushed s.log) held given so.0) behind in
      said s (asked.Begin changes) reply (told_replies.Begun (s.memory.last + 1)) (ap (λ (a : Answered). a.reply) ended.0)
      (passes s (asked.Begin changes) store.whole clear (sym (begin_refusal s.log s.memory changes store) ∙ none))

  begin_asks : table_reason s.memory (asked.Begin changes) ≡ None
      → CarriesOut told s.memory.client s.log (asks (calls.Reserve s.memory.area (sizes_of changes))
      (on_held (stops s.memory) (answers (told_replies.Begun (s.memory.last + 1)) (with_begun changes s.memory)))) (record { reply = reply; memory = now }) v
      → IsForReason s (asked.Begin changes) reply
  begin_asks clear (happened, given, mid, (step, behind)) =
      begin_went clear given mid (met told s.log s.memory.client (calls.Reserve s.memory.area (sizes_of changes)) happened given mid store.whole step) behind

  begin_numbers : (spent : Bool) → table_reason s.memory (asked.Begin changes) ≡ reason_if spent denials.IdsSpent None
      → CarriesOut told s.memory.client s.log (unless spent denials.IdsSpent s.memory (asks (calls.Reserve s.memory.area (sizes_of changes))
      (on_held (stops s.memory) (answers (told_replies.Begun (s.memory.last + 1)) (with_begun changes s.memory))))) (record { reply = reply; memory = now }) v
      → IsForReason s (asked.Begin changes) reply
  begin_numbers true is ended =
      said s (asked.Begin changes) reply (told_replies.Refused denials.IdsSpent) (ap (λ (a : Answered). a.reply) ended.0) (own_first s (asked.Begin changes) denials.IdsSpent store.whole is)
  begin_numbers false is carried = begin_asks is carried

  begin_limit : (many : Bool) → nat_le most_transactions (length s.memory.transactions) ≡ many
      → CarriesOut told s.memory.client s.log (unless many (denials.TxnLimit (length s.memory.transactions)) s.memory
      (unless (s.memory.last == greatest_number) denials.IdsSpent s.memory (asks (calls.Reserve s.memory.area (sizes_of changes))
      (on_held (stops s.memory) (answers (told_replies.Begun (s.memory.last + 1)) (with_begun changes s.memory)))))) (record { reply = reply; memory = now }) v
      → IsForReason s (asked.Begin changes) reply
  begin_limit true is ended =
      said s (asked.Begin changes) reply (told_replies.Refused (denials.TxnLimit (length s.memory.transactions))) (ap (λ (a : Answered). a.reply) ended.0)
      (own_first s (asked.Begin changes) (denials.TxnLimit (length s.memory.transactions)) store.whole
      (ap (λ (b : Bool). reason_if b (denials.TxnLimit (length s.memory.transactions)) (reason_if (s.memory.last == greatest_number) denials.IdsSpent None)) is))
  begin_limit false is carried =
      begin_numbers (s.memory.last == greatest_number)
      (ap (λ (b : Bool). reason_if b (denials.TxnLimit (length s.memory.transactions)) (reason_if (s.memory.last == greatest_number) denials.IdsSpent None)) is) carried

  begins : CarriesOut told s.memory.client s.log (begin_plan s.memory changes) (record { reply = reply; memory = now }) v → IsForReason s (asked.Begin changes) reply
  begins carries = begin_limit (nat_le most_transactions (length s.memory.transactions)) refl carries

-- ---- a checkpoint

spelled_long : (cells : List ℕ) → length (flat_map (little_bytes 8) cells) ≡ 8 * length cells
spelled_long [] = refl
spelled_long (cell ∷ cells) =
    let joined = length-append (little_bytes 8 cell) (flat_map (little_bytes 8) cells) in
    let rest = spelled_long cells in
    omega (arith, joined, rest)

abbrev written : Memory → List ℕ
written memory = checkpoint_bytes (record { cells = memory.cells; last = memory.last })

written_long : (memory : Memory) → length memory.cells ≡ cell_count → length (written memory) ≡ 260
written_long memory long =
    let joined = length-append (flat_map (little_bytes 8) memory.cells) (little_bytes 4 memory.last) in
    let cells = spelled_long memory.cells in
    omega (arith, joined, cells, long)

positive : (n : ℕ) → (n == 0) ≡ false → 0 < n
positive zero is = absurd (cc is)
positive (suc n) is = omega arith

last_high : (s : State) (stream : ℕ) → IsValid s → live s stream ≢ [] → 0 < last_live s stream
last_high s stream valid some = elim (cases_Bool (last_live s stream == null_lsn)) [
  | inl null ↦
      let named = above_null s (λ (e : LogEntry). (e.stream == stream) && is_live s e) s.records (recursion_from_All (IsRecord s) s.records valid.records.records) in
      absurd (some (none_last (live s stream) named null))
  | inr other ↦ positive (last_live s stream) other
]

above_last : (s : State) (stream : ℕ) → IsValid s → live s stream ≢ [] → is_base s stream (last_live s stream + 1) ≡ true
above_last s stream valid some =
    let last : ℕ = last_live s stream in
    ap (λ (b : Bool). is_some (live_at s stream (last + 1)) || (b && (last + 1 == last + 1))) (lt-ltb 0 last (last_high s stream valid some))
    ∙ ap (λ (b : Bool). is_some (live_at s stream (last + 1)) || (true && b)) (eq-eqb (last + 1) (last + 1) refl)
    ∙ or_true (is_some (live_at s stream (last + 1)))

checkpoint_refusal : {tabled : Bool} → (s : State) (memory : Memory) → IsStore tabled s memory
    → refusal s memory.client (calls.WriteRestart memory.area (written memory) (last_live s memory.stream + 1) false) ≡ room_refusal s (own area_largest)
checkpoint_refusal {tabled = tabled} s memory store =
    let k : ℕ = memory.stream in
    let base : ℕ = last_live s k + 1 in
    let area : Area = store_area memory [] in
    let tail : Refusal = refusals.TailInvalid base (base_of s k) (last_live s k) in
    let low : (base == null_lsn) ≡ false = ne_eqb base 0 (λ e. omega (arith, e)) in
    let held : nat_lt (sectors_held memory.transactions) 0 ≡ false = le-ltb (sectors_held memory.transactions) 0 (omega arith) in
    ap (λ (o : Option Area). refused_if (nat_lt s.containers 2) (refusals.NotEnoughContainers s.containers)
    (option_map_or (λ (a : Area). restart_refusal s a (written memory) base false) o (Some refusals.NoSuchArea))) store.area
    ∙ ap (λ (n : ℕ). unless_two_containers s (too_long 260 (n ∷ []) (if base == null_lsn then short area (spent_of false n) (full s (need_of false n []))
    else refused_if (not (is_base s k base)) tail (short area (spent_of false n) (full s (need_of false n [])))))) (written_long memory store.cells)
    ∙ ap (λ (b : Bool). unless_two_containers s (if b then short area 0 (full s 1) else refused_if (not (is_base s k base)) tail (short area 0 (full s 1)))) low
    ∙ ap (λ (b : Bool). unless_two_containers s (refused_if (not b) tail (short area 0 (full s 1)))) (above_last s k store.valid store.some)
    ∙ ap (λ (b : Bool). unless_two_containers s (refused_if b (refusals.ReservationShort (sectors_held memory.transactions) 0) (full s 1))) held

module _ (tabled told : Bool) (s : Store) (reply : TxnReply) (now : Memory) (v : State) (store : IsStore tabled s.log s.memory) where
  abbrev behind_restart : Reply → Plan Answered
  behind_restart = on_placed (stops s.memory) (λ _. answers told_replies.Done s.memory)

  abbrev behind_info : Reply → Plan Answered
  behind_info = on_info (stops s.memory) (λ (info : LogInfo). asks (calls.WriteRestart s.memory.area (written s.memory) (info.last + 1) false)
      (on_placed (stops s.memory) (λ _. answers told_replies.Done s.memory)))

  restart_went : table_reason s.memory asked.Checkpoint ≡ None → (given : Reply) (mid : State)
      → Met told s.log s.memory.client (calls.WriteRestart s.memory.area (written s.memory) (last_live s.log s.memory.stream + 1) false) given mid
      → CarriesOut told s.memory.client mid (on_placed (stops s.memory) (λ _. answers told_replies.Done s.memory) given) (record { reply = reply; memory = now }) v
      → IsForReason s asked.Checkpoint reply
  restart_went clear given mid (lacked takes is) behind =
      let ended = behind_reply told s.memory.client mid behind_restart given (replies.Refused refusals.NoMemory) (record { reply = reply; memory = now }) v is behind in
      said s asked.Checkpoint reply (told_replies.Refused (denials.Log refusals.NoMemory)) (ap (λ (a : Answered). a.reply) ended.0) (store.whole, clear)
  restart_went clear given mid (refused first by_it is) behind =
      let ended = behind_reply told s.memory.client mid behind_restart given (replies.Refused first) (record { reply = reply; memory = now }) v is behind in
      let at = sym (checkpoint_refusal s.log s.memory store) ∙ by_it in
      said s asked.Checkpoint reply (told_replies.Refused (denials.Log first)) (ap (λ (a : Answered). a.reply) ended.0)
      (told_room s asked.Checkpoint _ _ s.log.containers _ _ _ first at (of_log s asked.Checkpoint store.whole clear ∙ ap (option_map denials.Log) at))
  restart_went clear given mid (faulted called none is) behind =
      let ended = behind_reply told s.memory.client mid behind_restart given (replies.Refused refusals.DiskFault) (record { reply = reply; memory = now }) v is behind in
      said s asked.Checkpoint reply (told_replies.Refused (denials.Log refusals.DiskFault)) (ap (λ (a : Answered). a.reply) ended.0)
      (passes s asked.Checkpoint store.whole clear (sym (checkpoint_refusal s.log s.memory store) ∙ none))
  restart_went clear given mid (damaged reads) behind = absurd (cc reads)
  restart_went clear given mid (came none comes) behind =
      let area : Area = store_area s.memory [] in
      let bytes : List ℕ = written s.memory in
      let at : ℕ = last_live s.log s.memory.stream + 1 in
      let next : State = restarted s.log area bytes at false in
      let is : answer s.log s.memory.client (calls.WriteRestart s.memory.area bytes at false) ≡ outcome (replies.Placed (next_lsn s.log (length bytes))) next
      = ap (λ (o : Option Area). option_map_or (λ (a : Area). outcome (replies.Placed (next_lsn s.log (length bytes))) (restarted s.log a bytes at false)) o
      (outcome (replies.Refused refusals.NoSuchArea) s.log)) store.area in
      let so : Comes told (flushed s.log) (outcome (replies.Placed (next_lsn s.log (length bytes))) next) given mid
      = subst (λ (o : Outcome). Comes told (flushed s.log) o given mid) is comes in
      let told_so = lsn_as told (flushed s.log) (next_lsn s.log (length bytes)) given so.0 in
      let ended = behind_reply told s.memory.client mid behind_restart given (replies.Placed (next_lsn s.log (length bytes))) (record { reply = reply; memory = now }) v told_so behind in
      said s asked.Checkpoint reply told_replies.Done (ap (λ (a : Answered). a.reply) ended.0)
      (passes s asked.Checkpoint store.whole clear (sym (checkpoint_refusal s.log s.memory store) ∙ none))

  restart_asks : table_reason s.memory asked.Checkpoint ≡ None
      → CarriesOut told s.memory.client s.log (asks (calls.WriteRestart s.memory.area (written s.memory) (last_live s.log s.memory.stream + 1) false)
      (on_placed (stops s.memory) (λ _. answers told_replies.Done s.memory))) (record { reply = reply; memory = now }) v → IsForReason s asked.Checkpoint reply
  restart_asks clear (happened, given, mid, (step, behind)) =
      restart_went clear given mid
      (met told s.log s.memory.client (calls.WriteRestart s.memory.area (written s.memory) (last_live s.log s.memory.stream + 1) false) happened given mid store.whole step) behind

  info_passes : refusal s.log s.memory.client (calls.Info s.memory.stream) ≡ None
  info_passes = ap (λ (b : Bool). refused_if b refusals.NoSuchStream None) (stream_is_there s.log s.memory.stream store.stream)

  info_went : table_reason s.memory asked.Checkpoint ≡ None → (given : Reply) (mid : State) → Met told s.log s.memory.client (calls.Info s.memory.stream) given mid
      → CarriesOut told s.memory.client mid (behind_info given) (record { reply = reply; memory = now }) v → IsForReason s asked.Checkpoint reply
  info_went clear given mid (lacked takes is) behind = absurd (cc takes)
  info_went clear given mid (refused first by_it is) behind = let both : None ≡ Some first = sym info_passes ∙ by_it in absurd (cc both)
  info_went clear given mid (faulted called none is) behind = absurd (cc called)
  info_went clear given mid (damaged reads) behind = absurd (cc reads)
  info_went clear given mid (came none comes) behind =
      let told_so = info_as told (flushed s.log) (info_of s.log s.memory.stream) given comes.0 in
      restart_asks clear
      (same_log told s.memory.client mid s.log (asks (calls.WriteRestart s.memory.area (written s.memory) (last_live s.log s.memory.stream + 1) false) behind_restart)
      (record { reply = reply; memory = now }) v comes.1
      (behind_reply told s.memory.client mid behind_info given (replies.Info (info_of s.log s.memory.stream)) (record { reply = reply; memory = now }) v told_so behind))

  info_asks : table_reason s.memory asked.Checkpoint ≡ None
      → CarriesOut told s.memory.client s.log (asks (calls.Info s.memory.stream) behind_info) (record { reply = reply; memory = now }) v → IsForReason s asked.Checkpoint reply
  info_asks clear (happened, given, mid, (step, behind)) =
      info_went clear given mid (met told s.log s.memory.client (calls.Info s.memory.stream) happened given mid store.whole step) behind

  checkpoint_first : (some : Bool) → nat_lt 0 (length s.memory.transactions) ≡ some
      → CarriesOut told s.memory.client s.log (unless some (denials.TxnsOpen (length s.memory.transactions)) s.memory (asks (calls.Info s.memory.stream) behind_info))
      (record { reply = reply; memory = now }) v → IsForReason s asked.Checkpoint reply
  checkpoint_first true is ended =
      said s asked.Checkpoint reply (told_replies.Refused (denials.TxnsOpen (length s.memory.transactions))) (ap (λ (a : Answered). a.reply) ended.0)
      (own_first s asked.Checkpoint (denials.TxnsOpen (length s.memory.transactions)) store.whole
      (ap (λ (b : Bool). reason_if b (denials.TxnsOpen (length s.memory.transactions)) None) is))
  checkpoint_first false is carried = info_asks (ap (λ (b : Bool). reason_if b (denials.TxnsOpen (length s.memory.transactions)) None) is) carried

  checkpoints : CarriesOut told s.memory.client s.log (checkpoint_plan s.memory) (record { reply = reply; memory = now }) v → IsForReason s asked.Checkpoint reply
  checkpoints carries = checkpoint_first (nat_lt 0 (length s.memory.transactions)) refl carries

-- ---- the calls within a transaction

-- what another law says of them
pub record Outside : Type 0 where
  pub whole : (told : Bool) (s : Store) (call : TxnCall) (reply : TxnReply) (t : Store) → s.log.broken ≡ false → TxnStep told s call reply t
      → tells_break reply ≡ false → (t.log.broken ≡ false) × (tells_table_broken reply ≡ false)
  pub quiet : (told : Bool) (s : Store) (call : TxnCall) (reply : TxnReply) (t : Store) → reads_back call ≡ false → TxnStep told s call reply t
      → tells_table_damage reply ≡ false

module _ (tabled : Bool) (outside : Outside) (told : Bool) (s t : Store) (call : TxnCall) (whole : s.log.broken ≡ false) (no_room : log_refusal s.log call ≡ None) where
  reads : (container offset at : ℕ) → TxnStep told s call (told_replies.Refused (denials.Log (refusals.Damaged container offset at))) t → reads_back call ≡ true
  reads container offset at step = elim (cases_Bool (reads_back call)) [
    | inl so ↦ so
    | inr none ↦ let both : true ≡ false = outside.quiet told s call _ t none step in absurd (cc both)
  ]

  from_out : table_reason s.memory call ≡ None → (given : Refusal) → from_outside given ≡ true → TxnStep told s call (told_replies.Refused (denials.Log given)) t
      → IsForReason s call (told_replies.Refused (denials.Log given))
  from_out clear refusals.NoMemory is step = (whole, clear)
  from_out clear refusals.DiskFault is step = passes s call whole clear no_room
  from_out clear (refusals.Damaged container offset at) is step = (passes s call whole clear no_room, reads container offset at step)
  from_out clear refusals.Broken is step = let both : true ≡ false = (outside.whole told s call _ t whole step refl).1 in absurd (cc both)
  from_out clear _ is step = absurd (cc is)

  of_out : (leaves : Memory → Type 0) (reply : TxnReply) → TxnStep told s call reply t
      → Out tabled from_outside (table_reason s.memory call) s.log s.memory IsDone leaves (answer_of reply t) t.log → IsForReason s call reply
  of_out leaves reply step (denied given why own_one is same) =
      said s call reply (told_replies.Refused given) (ap (λ (a : Answered). a.reply) is) (told_own s call given own_one (own_first s call given whole why))
  of_out leaves reply step (stopped clear h) =
      said s call reply (told_replies.Refused (denials.Log h.given)) h.is
      (from_out clear h.given h.may (subst (λ (r : TxnReply). TxnStep told s call r t) h.is step))
  of_out leaves reply step (done clear so left after) = said s call reply told_replies.Done so (passes s call whole clear no_room)

-- ---- all calls

module _ (tabled : Bool) (laws : Laws) (lengths : Lengths) (outside : Outside) (told : Bool) (s t : Store) where
  begin_for : (changes : ℕ) (reply : TxnReply) → IsStore tabled s.log s.memory → TxnStep told s (asked.Begin changes) reply t → IsForReason s (asked.Begin changes) reply
  unfolding TxnStep
  begin_for changes reply store step =
      begins tabled told s changes reply t.memory t.log store (goes told s (begin_plan s.memory changes) (answer_of reply t) t.log store.whole step)

  checkpoint_for : (reply : TxnReply) → IsStore tabled s.log s.memory → TxnStep told s asked.Checkpoint reply t → IsForReason s asked.Checkpoint reply
  unfolding TxnStep
  checkpoint_for reply store step =
      checkpoints tabled told s reply t.memory t.log store (goes told s (checkpoint_plan s.memory) (answer_of reply t) t.log store.whole step)

  get_for : (cell : ℕ) (reply : TxnReply) → TxnStep told s (asked.Get cell) reply t → IsForReason s (asked.Get cell) reply
  get_for cell reply step = said s (asked.Get cell) reply _ (get_leaves told s t cell reply step).0 (none s.log.broken)
    where
      none : (b : Bool) → reason_if (b && false) (denials.Log refusals.Broken) None ≡ None
      none true = refl
      none false = refl

  whole_for : (call : TxnCall) (reply : TxnReply) → HasArguments call → IsStore tabled s.log s.memory → TxnStep told s call reply t → IsForReason s call reply
  whole_for (asked.Begin changes) reply has store step = begin_for changes reply store step
  whole_for (asked.Set number cell value) reply has store step =
      of_out tabled outside told s t (asked.Set number cell value) store.whole refl _ reply step (set_ends tabled laws lengths told s t store number cell value reply has.0 has.1 step)
  whole_for (asked.Back number kept) reply has store step =
      of_out tabled outside told s t (asked.Back number kept) store.whole refl _ reply step (back_ends tabled laws lengths told s t store number kept reply step)
  whole_for (asked.Commit number) reply has store step =
      of_out tabled outside told s t (asked.Commit number) store.whole refl _ reply step (commit_ends tabled laws lengths told s t store number reply step)
  whole_for (asked.Rollback number) reply has store step =
      of_out tabled outside told s t (asked.Rollback number) store.whole refl _ reply step (rollback_ends tabled laws lengths told s t store number reply step)
  whole_for (asked.Get cell) reply has store step = get_for cell reply step
  whole_for asked.Checkpoint reply has store step = checkpoint_for reply store step

  broken_says : (call : TxnCall) (reply : TxnReply) → s.log.broken ≡ true → asks_log call ≡ true → TxnStep told s call reply t → IsForReason s call reply
  broken_says call reply broken some step =
      said s call reply (told_replies.Refused (denials.Log refusals.Broken)) (broken_step told s t call reply broken some step).0 (broken_reason s call broken some)

  broken_for : (call : TxnCall) (reply : TxnReply) → s.log.broken ≡ true → TxnStep told s call reply t → IsForReason s call reply
  broken_for (asked.Get cell) reply broken step = get_for cell reply step
  broken_for (asked.Begin changes) reply broken step = broken_says (asked.Begin changes) reply broken refl step
  broken_for (asked.Set number cell value) reply broken step = broken_says (asked.Set number cell value) reply broken refl step
  broken_for (asked.Back number kept) reply broken step = broken_says (asked.Back number kept) reply broken refl step
  broken_for (asked.Commit number) reply broken step = broken_says (asked.Commit number) reply broken refl step
  broken_for (asked.Rollback number) reply broken step = broken_says (asked.Rollback number) reply broken refl step
  broken_for asked.Checkpoint reply broken step = broken_says asked.Checkpoint reply broken refl step

  pub for_reason : (call : TxnCall) (reply : TxnReply) → HasArguments call → IsKeptStore tabled s.log s.memory → TxnStep told s call reply t → IsForReason s call reply
  for_reason call reply has (inl broken) step = broken_for call reply broken.broken step
  for_reason call reply has (inr store) step = whole_for call reply has store step

-- ---- what the log refuses of a checkpoint

none_other : (broken some few full_up : Bool) (open_now have of_free of_reserved need : ℕ) (given : Refusal)
    → reason_if broken (denials.Log refusals.Broken) (option_or (reason_if some (denials.TxnsOpen open_now) None)
    (option_map denials.Log (refused_if few (refusals.NotEnoughContainers have) (refused_if full_up (refusals.Full of_free of_reserved need) None)))) ≡ Some (denials.Log given)
    → for_room_or_outside given ≡ true
none_other true some few full_up open_now have of_free of_reserved need given is = let same : refusals.Broken ≡ given = cc is in ap for_room_or_outside (sym same)
none_other false true few full_up open_now have of_free of_reserved need given is = absurd (cc is)
none_other false false true full_up open_now have of_free of_reserved need given is =
    let same : refusals.NotEnoughContainers have ≡ given = cc is in ap for_room_or_outside (sym same)
none_other false false false true open_now have of_free of_reserved need given is =
    let same : refusals.Full of_free of_reserved need ≡ given = cc is in ap for_room_or_outside (sym same)
none_other false false false false open_now have of_free of_reserved need given is = absurd (cc is)

pub checkpoint_room : (s : Store) (given : Refusal) → IsForReason s asked.Checkpoint (told_replies.Refused (denials.Log given)) → for_room_or_outside given ≡ true
checkpoint_room s refusals.NoMemory is = refl
checkpoint_room s refusals.DiskFault is = refl
checkpoint_room s (refusals.Damaged container offset at) is = refl
checkpoint_room s refusals.Broken is = refl
checkpoint_room s (refusals.Full of_free of_reserved need) is = refl
checkpoint_room s (refusals.NotEnoughContainers have) is = refl
checkpoint_room s _ is = none_other _ _ _ _ (length s.memory.transactions) s.log.containers _ _ _ _ is
