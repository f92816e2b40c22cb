-- How a transaction begins, and how a checkpoint is written: what is left of the store.
use Rattle.clfs_cells_laws.proofs.Words.{◌≡◌, ℕ, zero, suc, ◌+◌, ◌-◌, ◌*◌, ◌<◌, Bool, true, false, refl, sym, subst, ap, ◌∙◌, inl, inr, arith, List, [], ◌∷◌}
use Rattle.clfs_cells_laws.proofs.Words.{◌++◌, length, Option, Some, None, ◌≢◌, if◌then◌else◌, ◌^◌, not, ◌==◌, find, nat_le, nat_lt, replicate}
use Rattle.clfs_cells_laws.proofs.Words.{AllByRecursion, option_map_or, bytes_eq, eq-eqb, cases_Bool, ne_eqb, ltb-false, append-nil, null_lsn, own, set_base}
use Rattle.clfs_cells_laws.proofs.Words.{stream_number_from, LogEntry, Stream, Call, LogInfo, Refusal, Happened, Reply, Area, State, Outcome, answer, info_of}
use Rattle.clfs_cells_laws.proofs.Words.{outcome, reserved_for, restart_record, restarted, flush, flushed, last_live, live, hold_sizes, need_of, next_lsn}
use Rattle.clfs_cells_laws.proofs.Words.{put, with_more_held, full, is_base, refusal, refused_if, restart_refusal, too_long, free, grown, has_room, own_sum}
use Rattle.clfs_cells_laws.proofs.Words.{reserved, base_of, change_area, change_first, is_area, Step, Comes, IsReply, IsValid, TxnRefusal, TxnReply, Answered}
use Rattle.clfs_cells_laws.proofs.Words.{answers, begin_plan, checkpoint_plan, greatest_number, most_transactions, stops, unless, checkpoint_bytes, Plan}
use Rattle.clfs_cells_laws.proofs.Words.{CarriesOut, on_held, on_info, on_placed, Memory, Transaction, most_records, with_begun, begin_reason, reason_if}
use Rattle.clfs_cells_laws.proofs.Words.{table_reason, for_room_or_outside, from_outside, AllApart, AreApart, IsOpen, IsStore, records_left, sectors_held}
use Rattle.clfs_cells_laws.proofs.Words.{store_area, first_cells, records_after, table_name, IsTabled}
use Rattle.std.proofs.lemmas.List.Folds.{sum_by-replicate}
use Rattle.clfs_model.specs.declared.call.Call.TheVariants as calls
use Rattle.clfs_model.specs.declared.refusal.Refusal.TheVariants as refusals
use Rattle.clfs_model.specs.declared.reply.Reply.TheVariants as replies
use Rattle.clfs_cells.specs.declared.asked.TxnCall.TheVariants as asked
use Rattle.clfs_cells.specs.declared.told.TxnRefusal.TheVariants as denials
use Rattle.clfs_cells.specs.declared.told.TxnReply.TheVariants as told_replies
use Rattle.clfs_cells.specs.Plans.{calls as asks}
use Rattle.clfs_cells_laws.proofs.Ends.{IsDone, Out, denied, done, stopped, stopped_by}
use Rattle.clfs_cells_laws.proofs.FirstRestart.{keeps_flush, keeps_grown, keeps_ready}
use Rattle.clfs_cells_laws.proofs.Grown.{Grows, still_some}
use Rattle.clfs_cells_laws.proofs.OneOf.{all_join, apart_join, sectors_parts}
use Rattle.clfs_cells_laws.proofs.Opening.{stream_is_there}
use Rattle.clfs_cells_laws.proofs.OwnCalls.{added_above, Laws, area_after, damage_of}
use Rattle.clfs_cells_laws.proofs.Stacks.{each}
use Rattle.clfs_cells_laws.proofs.StoreCalls.{open_on, stream_same}
use Rattle.clfs_cells_laws.proofs.Tabled.{begun_keeps}
use Rattle.clfs_cells_laws.proofs.TabledRows.{keeps_as}
use Rattle.clfs_cells_laws.proofs.CheckpointTable.{checkpoint_lives, checkpoint_tabled, stream_there}
use Rattle.clfs_cells_laws.proofs.TableLog.{reads_as}
use Rattle.clfs_cells_laws.proofs.Undoes.{behind_reply, halted_store, same_log}
use Rattle.clfs_cells_laws.proofs.UndoReads.{left_broken, left_whole}
use Rattle.clfs_cells_laws.proofs.Ways.{Way, came, damaged, faulted, lacked, refused, way}

wider : (given : Refusal) → from_outside given ≡ true → for_room_or_outside given ≡ true
wider (refusals.Full free reserved need) is = refl
wider (refusals.NotEnoughContainers have) is = refl
wider _ is = is

-- ---- a transaction begins

abbrev pub sizes_of : ℕ → List ℕ
sizes_of changes = replicate (most_records changes) 24

none_long : (n : ℕ) → find (λ len. nat_lt 260 len) (replicate n 24) ≡ None
none_long zero = refl
none_long (suc n) = none_long n

sizes_are : (changes : ℕ) → sizes_of changes ≡ 24 ∷ replicate (2 * changes) 24
sizes_are changes = let more : most_records changes ≡ suc (2 * changes) = omega arith in ap (λ (n : ℕ). replicate n 24) more

pub sectors_are : (changes : ℕ) → own_sum (sizes_of changes) ≡ most_records changes
sectors_are changes = let sum = sum_by-replicate own (most_records changes) 24 in omega (arith, sum)

pub reserve_refusal : {tabled : Bool} → (s : State) (memory : Memory) (changes : ℕ) → IsStore tabled s memory
    → refusal s memory.client (calls.Reserve memory.area (sizes_of changes))
    ≡ refused_if (nat_lt s.containers 2) (refusals.NotEnoughContainers s.containers)
    (refused_if (not (has_room s (own_sum (sizes_of changes)))) (refusals.Full (free (grown s (own_sum (sizes_of changes)))) (reserved (grown s (own_sum (sizes_of changes)))) (own_sum (sizes_of changes))) None)
reserve_refusal {tabled = tabled} s memory changes store =
    ap (λ (o : Option Area). refused_if (nat_lt s.containers 2) (refusals.NotEnoughContainers s.containers)
    (option_map_or (λ (a : Area). too_long a.largest (sizes_of changes) (full s (own_sum (sizes_of changes)))) o (Some refusals.NoSuchArea))) store.area
    ∙ ap (λ (o : Option ℕ). refused_if (nat_lt s.containers 2) (refusals.NotEnoughContainers s.containers)
    (option_map_or (λ len. Some (refusals.RecordTooLong len 260)) o (full s (own_sum (sizes_of changes))))) (none_long (most_records changes))

for_room : (few full_up : Bool) (have of_free of_reserved need : ℕ) (first : Refusal)
    → refused_if few (refusals.NotEnoughContainers have) (refused_if full_up (refusals.Full of_free of_reserved need) None) ≡ Some first → for_room_or_outside first ≡ true
for_room true full_up have of_free of_reserved need first is = let same : refusals.NotEnoughContainers have ≡ first = cc is in ap for_room_or_outside (sym same)
for_room false true have of_free of_reserved need first is = let same : refusals.Full of_free of_reserved need ≡ first = cc is in ap for_room_or_outside (sym same)
for_room false false have of_free of_reserved need first is = absurd (cc is)

pub held_as : (told : Bool) (stable held : ℕ) (reply : Reply) → IsReply told stable (replies.Held held) reply → reply ≡ replies.Held held
held_as true stable held reply is = is
held_as false stable held reply is = is

abbrev new_one : Memory → ℕ → Transaction
new_one memory changes = record { number = memory.last + 1; changes = changes; made = []; last = null_lsn }

all_differ : (s : State) (memory : Memory) (changes : ℕ) (xs : List Transaction) → AllByRecursion (IsOpen s memory) xs → AllByRecursion (AreApart (new_one memory changes)) xs
all_differ s memory changes [] all = tt
all_differ s memory changes (x ∷ xs) all =
    (record { numbers = λ e. let low = all.0.numbered in omega (arith, low, e); cells = λ cell held also. cc held }, all_differ s memory changes xs all.1)

begun_store : {tabled : Bool} → (s u : State) (memory : Memory) (changes : ℕ) → IsStore tabled s memory → IsValid u
    → (memory.last == greatest_number) ≡ false → u ≡ hold_sizes (store_area memory []) (sizes_of changes) (grown s (own_sum (sizes_of changes)))
    → IsStore tabled u (with_begun changes memory)
begun_store {tabled = tabled} s u memory changes store valid unspent is =
    let now : Memory = with_begun changes memory in
    let x : Transaction = new_one memory changes in
    let need : ℕ = own_sum (sizes_of changes) in
    let g : State = grown s need in
    let grew = keeps_grown s need in
    let same : u ≡ change_area (with_more_held need) memory.client memory.area g
    = is ∙ ap (λ (l : List ℕ). hold_sizes (store_area memory []) l g) (sizes_are changes)
    ∙ ap (λ (l : List ℕ). change_area (with_more_held (own_sum l)) memory.client memory.area g) (sym (sizes_are changes)) in
    let streams : u.streams ≡ s.streams = ap (λ (y : State). y.streams) same ∙ grew.streams in
    let grows : Grows s u = record { streams = streams; more = []; records = ap (λ (y : State). y.records) same ∙ grew.records ∙ sym (append-nil s.records) } in
    let areas : u.areas ≡ change_first (is_area memory.client memory.area) (with_more_held need) s.areas
    = ap (λ (y : State). y.areas) same ∙ ap (λ (l : List Area). change_first (is_area memory.client memory.area) (with_more_held need) l) grew.areas in
    let sum : sectors_held memory.transactions + need ≡ sectors_held (memory.transactions ++ x ∷ [])
    = held_more (sectors_parts memory.transactions [] x) (ap sectors_held (append-nil memory.transactions)) (sectors_are changes) in
    record {
      valid = valid;
      whole = ap (λ (y : State). y.broken) same ∙ grew.broken ∙ store.whole;
      stream = stream_same s u streams ∙ store.stream;
      some = still_some s u memory.stream grows store.some;
      area = area_after s u memory.client memory.area (store_area memory []) (with_more_held need) (record { client = λ a. refl; number = λ a. refl }) store.area areas
          ∙ ap (λ (n : ℕ). Some (record (store_area memory []) { held = n })) sum;
      cells = store.cells;
      table = λ so.
          let keeps = store.table so in
          let same = reads_as s u memory.stream streams (ap (λ (y : State). y.records) same ∙ grew.records) in
          let not_last : memory.last ≡ greatest_number → ⊥ = λ e. let no : true ≡ false = sym (eq-eqb memory.last greatest_number e) ∙ unspent in cc no in
          let room : memory.last + 1 < 2 ^ 32 = (let high = keeps.last in omega (arith, high, not_last)) in
          keeps_as s u memory now (first_cells s memory.stream) (records_after s memory.stream) same.first same.records
          (begun_keeps (first_cells s memory.stream) (records_after s memory.stream) memory changes keeps room);
      apart = apart_join memory.transactions [] x (subst AllApart (sym (append-nil memory.transactions)) store.apart)
          (subst (AllByRecursion (AreApart x)) (sym (append-nil memory.transactions)) (all_differ s memory changes memory.transactions store.open_ones));
      open_ones = all_join (IsOpen u now) memory.transactions [] x
          (subst (AllByRecursion (IsOpen u now)) (sym (append-nil memory.transactions))
          (each (IsOpen s memory) (IsOpen u now) memory.transactions (λ y is_open. open_on s u memory now y grows refl (omega arith) (λ cell held. refl) is_open) store.open_ones))
          (record {
            numbered = omega arith;
            few = omega arith;
            newest = inl refl;
            logged = tt;
            rise = tt;
            stacked = tt;
            values = λ cell held. absurd (cc held);
          });
    }
  where
    held_more : {a b : ℕ} → sectors_held (memory.transactions ++ new_one memory changes ∷ []) ≡ records_left (new_one memory changes) + a → a ≡ b
        → own_sum (sizes_of changes) ≡ most_records changes → b + own_sum (sizes_of changes) ≡ sectors_held (memory.transactions ++ new_one memory changes ∷ [])
    held_more p q r = omega (arith, p, q, r)

abbrev pub IsBegunAs : Memory → TxnReply → Type 0
IsBegunAs memory reply = reply ≡ told_replies.Begun (memory.last + 1)

pub begin_out : {tabled : Bool} → Laws → (told : Bool) (s : State) (memory : Memory) (changes : ℕ) (result : Answered) (v : State) → IsStore tabled s memory
    → CarriesOut told memory.client s (begin_plan memory changes) result v
    → Out tabled for_room_or_outside (begin_reason memory) s memory (IsBegunAs memory) (λ now. now ≡ with_begun changes memory) result v
begin_out {tabled = tabled} laws told s memory changes result v store carries = limit (nat_le most_transactions (length memory.transactions)) refl carries
  where
    Ends_so : Type 0
    Ends_so = Out tabled for_room_or_outside (begin_reason memory) s memory (IsBegunAs memory) (λ now. now ≡ with_begun changes memory) result v

    reserve : Call
    reserve = calls.Reserve memory.area (sizes_of changes)

    rest : Reply → Plan Answered
    rest = on_held (stops memory) (answers (told_replies.Begun (memory.last + 1)) (with_begun changes memory))

    by : (memory.last == greatest_number) ≡ false → begin_reason memory ≡ None → (happened : Happened) (reply : Reply) (mid : State) → Step told s memory.client (calls.Reserve memory.area (sizes_of changes)) happened reply mid
        → CarriesOut told memory.client mid (on_held (stops memory) (answers (told_replies.Begun (memory.last + 1)) (with_begun changes memory)) reply) result v
        → Way told s memory.client (calls.Reserve memory.area (sizes_of changes)) reply mid
        → Out tabled for_room_or_outside (begin_reason memory) s memory (IsBegunAs memory) (λ now. now ≡ with_begun changes memory) result v
    by unspent clear happened reply mid step behind (lacked takes is same) =
        stopped clear (stopped_by for_room_or_outside told s mid memory rest reply result v wider (λ given. refl) store (left_whole is same) behind)
    by unspent clear happened reply mid step behind (refused first by_it is same) =
        stopped clear (halted_store for_room_or_outside told memory.client s memory first result v
        (for_room _ _ s.containers _ _ _ first (sym (reserve_refusal s memory changes store) ∙ by_it)) store
        (same_log told memory.client mid s (stops memory first) result v same (behind_reply told memory.client mid rest reply (replies.Refused first) result v is behind)))
    by unspent clear happened reply mid step behind (faulted called is same) =
        stopped clear (stopped_by for_room_or_outside told s mid memory rest reply result v wider (λ given. refl) store (left_broken refusals.DiskFault refl is same) behind)
    by unspent clear happened reply mid step behind (damaged read is same) =
        let d = damage_of reply is in
        stopped clear (stopped_by for_room_or_outside told s mid memory rest reply result v wider (λ given. refl) store (left_broken d.0 d.1 d.2 same) behind)
    by unspent clear happened reply mid step behind (came none comes) =
        let sizes : List ℕ = sizes_of changes in
        let area : Area = store_area memory [] in
        let next : State = hold_sizes area sizes (grown s (own_sum sizes)) in
        let held : ℕ = sectors_held memory.transactions + own_sum sizes in
        let is : answer s memory.client (calls.Reserve memory.area sizes) ≡ outcome (replies.Held held) next
        = ap (λ (o : Option Area). option_map_or (λ (a : Area). reserved_for s a sizes) o (outcome (replies.Refused refusals.NoSuchArea) s)) store.area in
        let so : Comes told (flushed s) (outcome (replies.Held held) next) reply mid = subst (λ (o : Outcome). Comes told (flushed s) o reply mid) is comes in
        let told_so = held_as told (flushed s) held reply so.0 in
        let valid = laws.keeps told s memory.client (calls.Reserve memory.area sizes) happened reply mid store.valid step in
        let ended = behind_reply told memory.client mid rest reply (replies.Held held) result v told_so behind in
        let after = begun_store s mid memory changes store valid unspent so.1 in
        done clear (ap (λ (a : Answered). a.reply) ended.0) (ap (λ (a : Answered). a.memory) ended.0)
        (subst (λ (x : State). IsStore tabled x result.memory) (sym ended.1) (subst (λ (a : Answered). IsStore tabled mid a.memory) (sym ended.0) after))

    begins : (memory.last == greatest_number) ≡ false → begin_reason memory ≡ None → CarriesOut told memory.client s (asks (calls.Reserve memory.area (sizes_of changes))
        (on_held (stops memory) (answers (told_replies.Begun (memory.last + 1)) (with_begun changes memory)))) result v
        → Out tabled for_room_or_outside (begin_reason memory) s memory (IsBegunAs memory) (λ now. now ≡ with_begun changes memory) result v
    begins unspent clear (happened, reply, mid, (step, behind)) =
        by unspent clear happened reply mid step behind (way told s memory.client (calls.Reserve memory.area (sizes_of changes)) happened reply mid store.whole step)

    numbers : (spent : Bool) → (memory.last == greatest_number) ≡ spent → begin_reason memory ≡ reason_if spent denials.IdsSpent None → CarriesOut told memory.client s (unless spent denials.IdsSpent memory (asks (calls.Reserve memory.area (sizes_of changes))
        (on_held (stops memory) (answers (told_replies.Begun (memory.last + 1)) (with_begun changes memory))))) result v
        → Out tabled for_room_or_outside (begin_reason memory) s memory (IsBegunAs memory) (λ now. now ≡ with_begun changes memory) result v
    numbers true is reason ended = denied denials.IdsSpent reason refl ended.0 ended.1
    numbers false is reason carried = begins is reason carried

    reason_at : (many : Bool) → nat_le most_transactions (length memory.transactions) ≡ many
        → begin_reason memory ≡ reason_if many (denials.TxnLimit (length memory.transactions)) (reason_if (memory.last == greatest_number) denials.IdsSpent None)
    reason_at many is = ap (λ (b : Bool). reason_if b (denials.TxnLimit (length memory.transactions)) (reason_if (memory.last == greatest_number) denials.IdsSpent None)) is

    limit : (many : Bool) → nat_le most_transactions (length memory.transactions) ≡ many → CarriesOut told memory.client s (unless many (denials.TxnLimit (length memory.transactions)) memory
        (unless (memory.last == greatest_number) denials.IdsSpent memory (asks (calls.Reserve memory.area (sizes_of changes))
        (on_held (stops memory) (answers (told_replies.Begun (memory.last + 1)) (with_begun changes memory)))))) result v
        → Out tabled for_room_or_outside (begin_reason memory) s memory (IsBegunAs memory) (λ now. now ≡ with_begun changes memory) result v
    limit true is ended = denied (denials.TxnLimit (length memory.transactions)) (reason_at true is) refl ended.0 ended.1
    limit false is carried = numbers (memory.last == greatest_number) refl (reason_at false is) carried

-- ---- a checkpoint

pub info_as : (told : Bool) (stable : ℕ) (info : LogInfo) (reply : Reply) → IsReply told stable (replies.Info info) reply → reply ≡ replies.Info info
info_as true stable info reply is = is
info_as false stable info reply is = is

pub lsn_as : (told : Bool) (stable lsn : ℕ) (reply : Reply) → IsReply told stable (replies.Placed lsn) reply → reply ≡ replies.Placed lsn
lsn_as true stable lsn reply is = is
lsn_as false stable lsn reply is = is

-- the record of a restart area
abbrev pub restart_entry : State → Area → List ℕ → ℕ → LogEntry
restart_entry s area bytes base = record (restart_record s area bytes base) { lsn = next_lsn (grown s (need_of false (length bytes) [])) (length bytes) }

-- a restart area joined the records, and the base moved
pub record Rebased (s : State) (area : Area) (bytes : List ℕ) (base : ℕ) (t : State) : Type 0 where
  pub records : t.records ≡ s.records ++ restart_entry s area bytes base ∷ []
  pub streams : t.streams ≡ set_base area.stream base s.streams
  pub areas : t.areas ≡ s.areas
  pub broken : t.broken ≡ s.broken

pub rebases : (s : State) (area : Area) (bytes : List ℕ) (base : ℕ) → (base == null_lsn) ≡ false → Rebased s area bytes base (restarted s area bytes base false)
rebases s area bytes base some =
    let before : State = grown s (need_of false (length bytes) []) in
    let grew = keeps_grown s (need_of false (length bytes) []) in
    let ready = keeps_ready before (length bytes) in
    let joined : State = put before (restart_record s area bytes base) in
    let last = keeps_flush joined in
    let is : restarted s area bytes base false ≡ record (flush joined) { streams = set_base area.stream base (flush joined).streams } = rw some refl in
    record {
      records = ap (λ (x : State). x.records) is ∙ last.records ∙ ap (λ (l : List LogEntry). l ++ restart_entry s area bytes base ∷ []) grew.records;
      streams = ap (λ (x : State). x.streams) is ∙ ap (set_base area.stream base) (last.streams ∙ ready.streams ∙ grew.streams);
      areas = ap (λ (x : State). x.areas) is ∙ last.areas ∙ ready.areas ∙ grew.areas;
      broken = ap (λ (x : State). x.broken) is ∙ last.broken ∙ ready.broken ∙ grew.broken;
    }

pub same_names : (first number lsn : ℕ) (name : List ℕ) (streams : List Stream) → stream_number_from first name (set_base number lsn streams) ≡ stream_number_from first name streams
same_names first number lsn name [] = refl
same_names first number lsn name (x ∷ streams) = elim (cases_Bool (number == 1)) [
  | inl here ↦ rw here refl
  | inr further ↦ rw further (elim (cases_Bool (bytes_eq x.name name)) [ inl own ↦ rw own refl | inr other ↦ rw other (same_names (first + 1) (number - 1) lsn name streams) ])
]

pub no_transactions : (ts : List Transaction) → nat_lt 0 (length ts) ≡ false → ts ≡ []
no_transactions [] is = refl
no_transactions (t ∷ ts) is = let none = ltb-false 0 (length (t ∷ ts)) is in absurd (omega (arith, none))

pub rebased_store : {tabled : Bool} → (s u : State) (memory : Memory) (bytes : List ℕ) (base : ℕ) → IsStore tabled s memory → IsValid u → nat_lt 0 (length memory.transactions) ≡ false
    → Rebased s (store_area memory []) bytes base u → live u memory.stream ≢ [] → (tabled ≡ true → IsTabled u memory) → IsStore tabled u memory
rebased_store {tabled = tabled} s u memory bytes base store valid none is some table =
    let empty = no_transactions memory.transactions none in
    record {
      valid = valid;
      whole = is.broken ∙ store.whole;
      stream = ap (λ (l : List Stream). stream_number_from 1 table_name l) is.streams ∙ same_names 1 memory.stream base table_name s.streams ∙ store.stream;
      some = some;
      area = ap (λ (l : List Area). find (is_area memory.client memory.area) l) is.areas ∙ store.area;
      cells = store.cells;
      table = table;
      apart = store.apart;
      open_ones = subst (AllByRecursion (IsOpen u memory)) (sym empty) tt;
    }

-- why a checkpoint isn't begun
abbrev pub checkpoint_reason : Memory → Option TxnRefusal
checkpoint_reason memory = table_reason memory asked.Checkpoint

abbrev pub any_refusal : Refusal → Bool
any_refusal given = true

abbrev written : Memory → List ℕ
written memory = checkpoint_bytes (record { cells = memory.cells; last = memory.last })

-- the new base is one, so there is a live record
pub is_base_there : {tabled : Bool} → (s : State) (memory : Memory) (base : ℕ) → IsStore tabled s memory → (base == null_lsn) ≡ false
    → refusal s memory.client (calls.WriteRestart memory.area (written memory) base false) ≡ None → is_base s memory.stream base ≡ true
is_base_there {tabled = tabled} s memory base store some passes =
    let at : refusal s memory.client (calls.WriteRestart memory.area (written memory) base false)
    ≡ refused_if (nat_lt s.containers 2) (refusals.NotEnoughContainers s.containers) (restart_refusal s (store_area memory []) (written memory) base false)
    = ap (λ (o : Option Area). refused_if (nat_lt s.containers 2) (refusals.NotEnoughContainers s.containers)
    (option_map_or (λ (a : Area). restart_refusal s a (written memory) base false) o (Some refusals.NoSuchArea))) store.area in
    let first = passed_by (nat_lt s.containers 2) (refusals.NotEnoughContainers s.containers) (restart_refusal s (store_area memory []) (written memory) base false) (sym at ∙ passes) in
    let second = short_by (find (λ len. nat_lt 260 len) (length (written memory) ∷ [])) _ first in
    let third = based_by (base == null_lsn) (is_base s memory.stream base) (refusals.TailInvalid base (base_of s memory.stream) (last_live s memory.stream)) _ some second in
    third
  where
    passed_by : (test : Bool) (given : Refusal) (others : Option Refusal) → refused_if test given others ≡ None → others ≡ None
    passed_by true given others none = absurd (cc none)
    passed_by false given others none = none

    short_by : (o : Option ℕ) (others : Option Refusal) → option_map_or (λ len. Some (refusals.RecordTooLong len 260)) o others ≡ None → others ≡ None
    short_by None others none = none
    short_by (Some len) others none = absurd (cc none)

    based_by : (null is_one : Bool) (given : Refusal) (others : Option Refusal) → null ≡ false
        → (if null then others else refused_if (not is_one) given others) ≡ None → is_one ≡ true
    based_by true is_one given others differs passes_it = absurd (cc differs)
    based_by false true given others differs passes_it = refl
    based_by false false given others differs passes_it = absurd (cc passes_it)

pub checkpoint_out : {tabled : Bool} → Laws → (told : Bool) (s : State) (memory : Memory) (result : Answered) (v : State) → IsStore tabled s memory
    → CarriesOut told memory.client s (checkpoint_plan memory) result v → Out tabled any_refusal (checkpoint_reason memory) s memory IsDone (λ now. now ≡ memory) result v
checkpoint_out {tabled = tabled} laws told s memory result v store carries = first (nat_lt 0 (length memory.transactions)) refl carries
  where
    behind_restart : Reply → Plan Answered
    behind_restart = on_placed (stops memory) (λ _. answers told_replies.Done memory)

    no_reason : nat_lt 0 (length memory.transactions) ≡ false → checkpoint_reason memory ≡ None
    no_reason none = ap (λ (b : Bool). reason_if b (denials.TxnsOpen (length memory.transactions)) None) none

    by : nat_lt 0 (length memory.transactions) ≡ false → (base : ℕ) → base ≡ last_live s memory.stream + 1 → (base == null_lsn) ≡ false → (happened : Happened) (reply : Reply) (mid : State)
        → Step told s memory.client (calls.WriteRestart memory.area (written memory) base false) happened reply mid
        → CarriesOut told memory.client mid (on_placed (stops memory) (λ _. answers told_replies.Done memory) reply) result v
        → Way told s memory.client (calls.WriteRestart memory.area (written memory) base false) reply mid → Out tabled any_refusal (checkpoint_reason memory) s memory IsDone (λ now. now ≡ memory) result v
    by none base base_is some happened reply mid step behind (lacked takes is same) =
        stopped (no_reason none) (stopped_by any_refusal told s mid memory behind_restart reply result v (λ given outside. refl) (λ given. refl) store (left_whole is same) behind)
    by none base base_is some happened reply mid step behind (refused first by_it is same) =
        stopped (no_reason none) (halted_store any_refusal told memory.client s memory first result v refl store
        (same_log told memory.client mid s (stops memory first) result v same (behind_reply told memory.client mid behind_restart reply (replies.Refused first) result v is behind)))
    by none base base_is some happened reply mid step behind (faulted called is same) =
        stopped (no_reason none) (stopped_by any_refusal told s mid memory behind_restart reply result v (λ given outside. refl) (λ given. refl) store (left_broken refusals.DiskFault refl is same) behind)
    by none base base_is some happened reply mid step behind (damaged read is same) =
        let d = damage_of reply is in
        stopped (no_reason none) (stopped_by any_refusal told s mid memory behind_restart reply result v (λ given outside. refl) (λ given. refl) store (left_broken d.0 d.1 d.2 same) behind)
    by none base base_is some happened reply mid step behind (came passes comes) =
        let area : Area = store_area memory [] in
        let bytes : List ℕ = written memory in
        let next : State = restarted s area bytes base false in
        let is : answer s memory.client (calls.WriteRestart memory.area bytes base false) ≡ outcome (replies.Placed (next_lsn s (length bytes))) next
        = ap (λ (o : Option Area). option_map_or (λ (a : Area). outcome (replies.Placed (next_lsn s (length bytes))) (restarted s a bytes base false)) o
        (outcome (replies.Refused refusals.NoSuchArea) s)) store.area in
        let so : Comes told (flushed s) (outcome (replies.Placed (next_lsn s (length bytes))) next) reply mid
        = subst (λ (o : Outcome). Comes told (flushed s) o reply mid) is comes in
        let told_so = lsn_as told (flushed s) (next_lsn s (length bytes)) reply so.0 in
        let valid = laws.keeps told s memory.client (calls.WriteRestart memory.area bytes base false) happened reply mid store.valid step in
        let ended = behind_reply told memory.client mid behind_restart reply (replies.Placed (next_lsn s (length bytes))) result v told_so behind in
        let made = subst (Rebased s area bytes base) (sym so.1) (rebases s area bytes base some) in
        let above = added_above laws told s memory.client (calls.WriteRestart memory.area bytes base false) happened reply mid (restart_entry s area bytes base) store.valid step made.records in
        let there = stream_there s memory.stream store.stream in
        let is_one = is_base_there s memory base store some passes in
        let lives = checkpoint_lives s mid memory.stream (restart_entry s area bytes base) base base_is is_one store.valid above made.streams made.records refl there in
        let after = rebased_store s mid memory bytes base store valid none made (λ e. let no : restart_entry s area bytes base ∷ [] ≡ [] = sym lives ∙ e in cc no)
        (λ so. checkpoint_tabled laws s mid memory (restart_entry s area bytes base) base store.cells
        (no_transactions memory.transactions none) base_is is_one store.valid valid (store.table so) above made.streams made.records refl refl refl there) in
        done (no_reason none) (ap (λ (a : Answered). a.reply) ended.0) (ap (λ (a : Answered). a.memory) ended.0)
        (subst (λ (x : State). IsStore tabled x result.memory) (sym ended.1) (subst (λ (a : Answered). IsStore tabled mid a.memory) (sym ended.0) after))

    writes : nat_lt 0 (length memory.transactions) ≡ false → (base : ℕ) → base ≡ last_live s memory.stream + 1 → (base == null_lsn) ≡ false
        → CarriesOut told memory.client s (asks (calls.WriteRestart memory.area (written memory) base false) (on_placed (stops memory) (λ _. answers told_replies.Done memory))) result v
        → Out tabled any_refusal (checkpoint_reason memory) s memory IsDone (λ now. now ≡ memory) result v
    writes none base base_is some (happened, reply, mid, (step, behind)) =
        by none base base_is some happened reply mid step behind (way told s memory.client (calls.WriteRestart memory.area (written memory) base false) happened reply mid store.whole step)

    behind_info : Reply → Plan Answered
    behind_info = on_info (stops memory) (λ (info : LogInfo). asks (calls.WriteRestart memory.area (written memory) (info.last + 1) false)
        (on_placed (stops memory) (λ _. answers told_replies.Done memory)))

    info_passes : refusal s memory.client (calls.Info memory.stream) ≡ None
    info_passes = ap (λ (b : Bool). refused_if b refusals.NoSuchStream None) (stream_is_there s memory.stream store.stream)

    went_on : nat_lt 0 (length memory.transactions) ≡ false → (reply : Reply) (mid : State)
        → CarriesOut told memory.client mid (behind_info reply) result v → Way told s memory.client (calls.Info memory.stream) reply mid → Out tabled any_refusal (checkpoint_reason memory) s memory IsDone (λ now. now ≡ memory) result v
    went_on none reply mid behind (lacked takes is same) = absurd (cc takes)
    went_on none reply mid behind (faulted called is same) = absurd (cc called)
    went_on none reply mid behind (damaged read is same) = absurd (cc read)
    went_on none reply mid behind (refused first by_it is same) = let both : None ≡ Some first = sym info_passes ∙ by_it in absurd (cc both)
    went_on none reply mid behind (came passes comes) =
        let told_so = info_as told (flushed s) (info_of s memory.stream) reply comes.0 in
        let above : (last_live s memory.stream + 1 == null_lsn) ≡ false = ne_eqb (last_live s memory.stream + 1) 0 (λ e. omega (arith, e)) in
        writes none (last_live s memory.stream + 1) refl above
        (same_log told memory.client mid s (asks (calls.WriteRestart memory.area (written memory) (last_live s memory.stream + 1) false) behind_restart) result v comes.1
        (behind_reply told memory.client mid behind_info reply (replies.Info (info_of s memory.stream)) result v told_so behind))

    asks_info : nat_lt 0 (length memory.transactions) ≡ false → CarriesOut told memory.client s (asks (calls.Info memory.stream) behind_info) result v
        → Out tabled any_refusal (checkpoint_reason memory) s memory IsDone (λ now. now ≡ memory) result v
    asks_info none (happened, reply, mid, (step, behind)) =
        went_on none reply mid behind (way told s memory.client (calls.Info memory.stream) happened reply mid store.whole step)

    first : (some : Bool) → nat_lt 0 (length memory.transactions) ≡ some
        → CarriesOut told memory.client s (unless some (denials.TxnsOpen (length memory.transactions)) memory (asks (calls.Info memory.stream) behind_info)) result v
        → Out tabled any_refusal (checkpoint_reason memory) s memory IsDone (λ now. now ≡ memory) result v
    first true is ended =
        denied (denials.TxnsOpen (length memory.transactions)) (ap (λ (b : Bool). reason_if b (denials.TxnsOpen (length memory.transactions)) None) is) refl ended.0 ended.1
    first false is carried = asks_info is carried
