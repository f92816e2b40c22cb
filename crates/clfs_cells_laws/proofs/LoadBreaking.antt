-- Loading leaves a log that isn't broken so, unless it is refused for a fault of the disk or damage.
use Rattle.clfs_cells_laws.proofs.Words.{◌≡◌, ℕ, zero, suc, Bool, true, false, sym, ap, ◌∙◌, inl, inr, List, [], ◌∷◌, ◌++◌, Option, Some, None, Ok, Err}
use Rattle.clfs_cells_laws.proofs.Words.{length, ◌==◌, if◌then◌else◌, option_map_or, null_lsn, LogEntry, Call, LogInfo, Refusal, Reply, State, is_reply_of}
use Rattle.clfs_cells_laws.proofs.Words.{Checkpoint, TxnRecord, TxnLoadRefusal, blank_checkpoint, checkpoint_of, txn_record_of, Loaded, LoadStep, gives_up}
use Rattle.clfs_cells_laws.proofs.Words.{load_above, load_area, load_new, load_stream, load_table, memory_of, on_more, read_records, stopped, Plan, ends}
use Rattle.clfs_cells_laws.proofs.Words.{calls, never, CarriesOut, on_area, on_found, on_info, on_placed, on_stream, Memory, breaks_log}
use Rattle.clfs_model.specs.declared.call.Call.TheVariants as log_calls
use Rattle.clfs_model.specs.declared.refusal.Refusal.TheVariants as log_refusals
use Rattle.clfs_model.specs.declared.reply.Reply.TheVariants as log_replies
use Rattle.clfs_cells.specs.declared.told.TxnLoadRefusal.TheVariants as refusals
use Rattle.clfs_cells.specs.Loading.{in_table_area}
use Rattle.clfs_cells_laws.specs.Breaking.{breaks_loading}
use Rattle.clfs_cells_laws.proofs.Breaking.{LogLaws, IsBreak, fine_or_break, no_break_of_end}

-- a plan that leaves a log that isn't broken so, unless it ends with a fault or damage
record LeavesWhole (plan : Plan Loaded) : Type 0 where
  whole : (told : Bool) (client : ℕ) (log : State) (result : Loaded) (t : State) → log.broken ≡ false → CarriesOut told client log plan result t
      → breaks_loading result ≡ false → t.broken ≡ false

-- a plan that ends with one of them
record EndsSo (plan : Plan Loaded) : Type 0 where
  told_so : (told : Bool) (client : ℕ) (log : State) (result : Loaded) (t : State) → CarriesOut told client log plan result t → breaks_loading result ≡ true

ends_whole : (result : Loaded) → LeavesWhole (ends result)
ends_whole loaded = record { whole = λ told client log result t was did calm. ap (λ (s : State). s.broken) did.1 ∙ was }

never_whole : LeavesWhole never
never_whole = record { whole = λ told client log result t was did calm. absurd did }

calls_whole : LogLaws → (call : Call) (rest : Reply → Plan Loaded) → ((reply : Reply) → LeavesWhole (rest reply))
    → ((reply : Reply) → is_reply_of call reply ≡ true → IsBreak reply → EndsSo (rest reply)) → LeavesWhole (calls call rest)
calls_whole laws call rest going others = record { whole = whole }
  where
    whole : (told : Bool) (client : ℕ) (log : State) (result : Loaded) (t : State) → log.broken ≡ false → CarriesOut told client log (calls call rest) result t
        → breaks_loading result ≡ false → t.broken ≡ false
    whole told client log result t was (happened, reply, mid, (step, behind)) calm = elim (fine_or_break reply) [
      | inl fine ↦ (going reply).whole told client mid result t (laws.stays told log client call happened reply mid was fine step).0 behind calm
      | inr some ↦
          let last = (others reply (laws.kind told log client call happened reply mid step) some).told_so told client mid result t behind in
          let e : true ≡ false = sym last ∙ calm in absurd (cc e)
    ]

-- ---- a refusal

no_break_of_area : (area : ℕ) (refusal : Refusal) → is_reply_of (log_calls.DeleteArea area) (log_replies.Refused refusal) ≡ true → breaks_log refusal ≡ true → ⊥
no_break_of_area area log_refusals.DiskFault kind some = cc kind
no_break_of_area area (log_refusals.Damaged container offset at) kind some = cc kind
no_break_of_area area _ kind some = cc some

gives_up_whole : LogLaws → (area : ℕ) (cause : TxnLoadRefusal) → LeavesWhole (gives_up area cause)
gives_up_whole laws area cause = calls_whole laws (log_calls.DeleteArea area) (λ reply. ends (Err cause)) (λ reply. ends_whole (Err cause))
    (λ reply kind some. absurd (no_break_of_area area some.cause (rw some.is at kind) some.breaks))

ends_so : (refusal : Refusal) → breaks_log refusal ≡ true → EndsSo (ends (Err (refusals.Log refusal)))
ends_so refusal some = record { told_so = λ told client log result t did. ap breaks_loading did.0 ∙ some }

stopped_so : (area : ℕ) (refusal : Refusal) → breaks_log refusal ≡ true → EndsSo (stopped area refusal)
stopped_so area refusal some = record {
  told_so = λ told client log result t (happened, reply, mid, (step, behind)). (ends_so refusal some).told_so told client mid result t behind;
}

-- ---- by a reply

placed_whole : LogLaws → (call : Call) (area : ℕ) (go : ℕ → Plan Loaded) → ((lsn : ℕ) → LeavesWhole (go lsn)) → LeavesWhole (calls call (on_placed (stopped area) go))
placed_whole laws call area go going = calls_whole laws call (on_placed (stopped area) go) by_reply
    (λ reply kind some. rw some.is (stopped_so area some.cause some.breaks))
  where
    by_reply : (reply : Reply) → LeavesWhole (on_placed (stopped area) go reply)
    by_reply (log_replies.Placed lsn) = going lsn
    by_reply (log_replies.Refused refusal) = gives_up_whole laws area (refusals.Log refusal)
    by_reply _ = never_whole

found_whole : LogLaws → (call : Call) (area : ℕ) (go : ℕ → LogEntry → Plan Loaded) → ((cursor : ℕ) (entry : LogEntry) → LeavesWhole (go cursor entry))
    → LeavesWhole (calls call (on_found (stopped area) go))
found_whole laws call area go going = calls_whole laws call (on_found (stopped area) go) by_reply
    (λ reply kind some. rw some.is (stopped_so area some.cause some.breaks))
  where
    by_reply : (reply : Reply) → LeavesWhole (on_found (stopped area) go reply)
    by_reply (log_replies.Found cursor entry) = going cursor entry
    by_reply (log_replies.Refused refusal) = gives_up_whole laws area (refusals.Log refusal)
    by_reply _ = never_whole

info_whole : LogLaws → (call : Call) (area : ℕ) (go : LogInfo → Plan Loaded) → ((info : LogInfo) → LeavesWhole (go info))
    → LeavesWhole (calls call (on_info (stopped area) go))
info_whole laws call area go going = calls_whole laws call (on_info (stopped area) go) by_reply
    (λ reply kind some. rw some.is (stopped_so area some.cause some.breaks))
  where
    by_reply : (reply : Reply) → LeavesWhole (on_info (stopped area) go reply)
    by_reply (log_replies.Info info) = going info
    by_reply (log_replies.Refused refusal) = gives_up_whole laws area (refusals.Log refusal)
    by_reply _ = never_whole

-- the reply to reading on is no end where it is a fault or damage
more_so : (area : ℕ) (go : LogEntry → Plan Loaded) (done : Plan Loaded) (refusal : Refusal) → breaks_log refusal ≡ true
    → EndsSo (on_more area go done (log_replies.Refused refusal))
more_so area go done log_refusals.DiskFault some = stopped_so area log_refusals.DiskFault some
more_so area go done (log_refusals.Damaged container offset at) some = stopped_so area (log_refusals.Damaged container offset at) some
more_so area go done _ some = absurd (cc some)

more_whole : LogLaws → (call : Call) (area : ℕ) (go : LogEntry → Plan Loaded) (done : Plan Loaded) → ((entry : LogEntry) → LeavesWhole (go entry)) → LeavesWhole done
    → LeavesWhole (calls call (on_more area go done))
more_whole laws call area go done going last = calls_whole laws call (on_more area go done) by_reply
    (λ reply kind some. rw some.is (more_so area go done some.cause some.breaks))
  where
    by_reply : (reply : Reply) → LeavesWhole (on_more area go done reply)
    by_reply (log_replies.Next entry) = going entry
    by_reply (log_replies.Refused log_refusals.EndOfLog) = last
    by_reply (log_replies.Refused refusal) = gives_up_whole laws area (refusals.Log refusal)
    by_reply _ = never_whole

read_ended_whole : LogLaws → (area cursor : ℕ) (rest : Plan Loaded) → LeavesWhole rest → LeavesWhole (calls (log_calls.EndRead area cursor) (λ reply. rest))
read_ended_whole laws area cursor rest going = calls_whole laws (log_calls.EndRead area cursor) (λ reply. rest) (λ reply. going)
    (λ reply kind some. absurd (no_break_of_end area cursor some.cause (rw some.is at kind) some.breaks))

option_whole : {X : Type 0} (go : X → Plan Loaded) (o : Option X) (other : Plan Loaded) → ((x : X) → LeavesWhole (go x)) → LeavesWhole other
    → LeavesWhole (option_map_or go o other)
option_whole go None other going none = none
option_whole go (Some x) other going none = going x

-- ---- the parts of loading

records_whole : LogLaws → (more area cursor : ℕ) (records : List TxnRecord) (whole : List TxnRecord → Memory) → LeavesWhole (read_records more area cursor records whole)
records_whole laws zero area cursor records whole = never_whole
records_whole laws (suc more) area cursor records whole = more_whole laws (log_calls.ReadNext area cursor) area _ _
    (λ (entry : LogEntry). option_whole _ (txn_record_of entry.bytes) _ (λ (r : TxnRecord). records_whole laws more area cursor (records ++ r ∷ []) whole)
    (gives_up_whole laws area (refusals.NotATable entry.lsn)))
    (read_ended_whole laws area cursor (ends (Ok (whole records))) (ends_whole (Ok (whole records))))

new_whole : LogLaws → (client area stream : ℕ) → LeavesWhole (load_new client area stream)
new_whole laws client area stream = placed_whole laws _ area _ (λ lsn. ends_whole (Ok (memory_of client area stream blank_checkpoint [])))

above_whole : LogLaws → (most client area stream : ℕ) (c : Checkpoint) (lsn : ℕ) → LeavesWhole (load_above most client area stream c lsn)
above_whole laws most client area stream c lsn = found_whole laws _ area _ (λ cursor entry. records_whole laws most area cursor [] (memory_of client area stream c))

table_whole : LogLaws → (most client area stream : ℕ) → LeavesWhole (load_table most client area stream)
table_whole laws most client area stream = found_whole laws _ area _ (λ cursor (entry : LogEntry). read_ended_whole laws area cursor _
    (option_whole _ (checkpoint_of entry.bytes) _ (λ (c : Checkpoint). above_whole laws most client area stream c entry.lsn) (gives_up_whole laws area (refusals.NotATable entry.lsn))))

either_whole : (test : Bool) (a b : Plan Loaded) → LeavesWhole a → LeavesWhole b → LeavesWhole (if test then a else b)
either_whole true a b first second = first
either_whole false a b first second = second

stream_whole : LogLaws → (most client area stream : ℕ) (info : LogInfo) → LeavesWhole (load_stream most client area stream info)
stream_whole laws most client area stream info = either_whole (info.last == null_lsn) _ _ (new_whole laws client area stream)
    (either_whole (info.restart == null_lsn) _ _ (gives_up_whole laws area (refusals.NotATable info.last)) (table_whole laws most client area stream))

area_whole : LogLaws → (most client area stream : ℕ) → LeavesWhole (load_area most client area stream)
area_whole laws most client area stream = info_whole laws _ area _ (stream_whole laws most client area stream)

-- before there is the area
made_whole : LogLaws → (stream : ℕ) (rest : ℕ → ℕ → Plan Loaded) → ((area : ℕ) → LeavesWhole (rest area stream))
    → LeavesWhole (calls (log_calls.CreateArea stream 260 2) (on_area (λ refusal. ends (Err (refusals.Log refusal))) (λ area. rest area stream)))
made_whole laws stream rest going = calls_whole laws _ (on_area (λ refusal. ends (Err (refusals.Log refusal))) (λ area. rest area stream)) by_reply
    (λ reply kind some. rw some.is (ends_so some.cause some.breaks))
  where
    by_reply : (reply : Reply) → LeavesWhole (on_area (λ refusal. ends (Err (refusals.Log refusal))) (λ area. rest area stream) reply)
    by_reply (log_replies.Area number) = going number
    by_reply (log_replies.Refused refusal) = ends_whole (Err (refusals.Log refusal))
    by_reply _ = never_whole

opened_whole : LogLaws → (rest : ℕ → ℕ → Plan Loaded) → ((area stream : ℕ) → LeavesWhole (rest area stream)) → LeavesWhole (in_table_area rest)
opened_whole laws rest going = calls_whole laws _ (on_stream (λ refusal. ends (Err (refusals.Log refusal))) (λ stream.
    calls (log_calls.CreateArea stream 260 2) (on_area (λ refusal. ends (Err (refusals.Log refusal))) (λ area. rest area stream)))) by_reply
    (λ reply kind some. rw some.is (ends_so some.cause some.breaks))
  where
    by_reply : (reply : Reply) → LeavesWhole (on_stream (λ refusal. ends (Err (refusals.Log refusal))) (λ stream.
        calls (log_calls.CreateArea stream 260 2) (on_area (λ refusal. ends (Err (refusals.Log refusal))) (λ area. rest area stream))) reply)
    by_reply (log_replies.Stream number) = made_whole laws number rest (λ area. going area number)
    by_reply (log_replies.Refused refusal) = ends_whole (Err (refusals.Log refusal))
    by_reply _ = never_whole

pub loads_whole : LogLaws → (told : Bool) (log : State) (client : ℕ) (loaded : Loaded) (t : State) → log.broken ≡ false → LoadStep told log client loaded t
    → breaks_loading loaded ≡ false → t.broken ≡ false
unfolding LoadStep
loads_whole laws told log client loaded t was step calm =
    (opened_whole laws (load_area (length log.records) client) (area_whole laws (length log.records) client)).whole told client log loaded t was step calm
