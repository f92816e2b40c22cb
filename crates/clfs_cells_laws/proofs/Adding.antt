-- An append of a transaction's record, and what it leaves of the log.
use Rattle.clfs_cells_laws.proofs.Words.{◌≡◌, ℕ, ◌-◌, ◌≤◌, Bool, true, false, refl, subst, ap, ◌∙◌, List, [], ◌∷◌, ◌++◌, length, Option, Some, option_map_or}
use Rattle.clfs_cells_laws.proofs.Words.{frontier, own, Cursor, LogEntry, Draft, Happened, Reply, Area, State, Outcome, answer, outcome, flushed, appended}
use Rattle.clfs_cells_laws.proofs.Words.{next_lsn, plain_record, with_less_held, area_of, Step, Comes, IsReply, IsValid, Action, append_call, txn_bytes}
use Rattle.clfs_cells_laws.proofs.Words.{txn_record, Memory, Transaction, IsStoreWith, sectors_held, store_area}
use Rattle.clfs_model.specs.declared.refusal.Refusal.TheVariants as refusals
use Rattle.clfs_model.specs.declared.reply.Reply.TheVariants as replies
use Rattle.clfs_cells_laws.proofs.Grown.{Grows}
use Rattle.clfs_cells_laws.proofs.Links.{draft_of}
use Rattle.clfs_cells_laws.proofs.OwnCalls.{Laws, added_above, appended_is, area_after}

placed_as : (told : Bool) (stable lsn : ℕ) (reply : Reply) → IsReply told stable (replies.Placed lsn) reply → reply ≡ replies.Placed lsn
placed_as true stable lsn reply is = is
placed_as false stable lsn reply is = is

-- what an append of a transaction's record leaves
pub record Added (s u : State) (memory : Memory) (cursors : List Cursor) (entry : LogEntry) : Type 0 where
  pub valid : IsValid u
  pub whole : u.broken ≡ false
  pub streams : u.streams ≡ s.streams
  pub area : area_of u memory.client memory.area ≡ Some (record (store_area memory cursors) { held = sectors_held memory.transactions - 1 })
  pub records : u.records ≡ s.records ++ entry ∷ []
  pub above : frontier s.place ≤ entry.lsn

-- the record that an append adds
abbrev pub entry_of : Memory → List Cursor → Transaction → Action → ℕ → Bool → ℕ → LogEntry
entry_of memory cursors t action undo_next flush lsn = record (plain_record (store_area memory cursors) (draft_of t action undo_next flush)) { lsn = lsn }

pub append_came : {tabled : Bool} → (told : Bool) (s : State) (memory : Memory) (cursors : List Cursor) (t : Transaction) (action : Action) (undo_next : ℕ) (flush : Bool) (reply : Reply)
    (mid : State) → IsStoreWith tabled cursors s memory → Comes told (flushed s) (answer s memory.client (append_call memory t action undo_next flush)) reply mid
    → (reply ≡ replies.Placed (next_lsn s (length (txn_bytes (txn_record t.number action)))))
    × (mid ≡ appended s (store_area memory cursors) (draft_of t action undo_next flush) true [])
append_came {tabled = tabled} told s memory cursors t action undo_next flush reply mid store comes =
    let draft : Draft = draft_of t action undo_next flush in
    let after : Outcome = outcome (replies.Placed (next_lsn s (length draft.bytes))) (appended s (store_area memory cursors) draft true []) in
    let is : answer s memory.client (append_call memory t action undo_next flush) ≡ after
    = ap (λ (o : Option Area). option_map_or (λ (a : Area). outcome (replies.Placed (next_lsn s (length draft.bytes))) (appended s a draft true [])) o
    (outcome (replies.Refused refusals.NoSuchArea) s)) store.area in
    let so : Comes told (flushed s) after reply mid = subst (λ (o : Outcome). Comes told (flushed s) o reply mid) is comes in
    (placed_as told (flushed s) (next_lsn s (length draft.bytes)) reply so.0, so.1)

pub added : {tabled : Bool} → Laws → (told : Bool) (s : State) (memory : Memory) (cursors : List Cursor) (t : Transaction) (action : Action) (undo_next : ℕ) (flush : Bool)
    (happened : Happened) (reply : Reply) (mid : State) → IsStoreWith tabled cursors s memory → length (txn_bytes (txn_record t.number action)) ≡ 24
    → Step told s memory.client (append_call memory t action undo_next flush) happened reply mid
    → mid ≡ appended s (store_area memory cursors) (draft_of t action undo_next flush) true []
    → Added s mid memory cursors (entry_of memory cursors t action undo_next flush (next_lsn s (length (txn_bytes (txn_record t.number action)))))
added {tabled = tabled} laws told s memory cursors t action undo_next flush happened reply mid store long step is =
    let draft : Draft = draft_of t action undo_next flush in
    let parts = appended_is s (store_area memory cursors) draft mid refl is in
    let entry : LogEntry = entry_of memory cursors t action undo_next flush (next_lsn s (length draft.bytes)) in
    record {
      valid = laws.keeps told s memory.client (append_call memory t action undo_next flush) happened reply mid store.valid step;
      whole = parts.broken ∙ store.whole;
      streams = parts.streams;
      area = area_after s mid memory.client memory.area (store_area memory cursors) (with_less_held (own (length draft.bytes)))
          (record { client = λ a. refl; number = λ a. refl }) store.area parts.areas
          ∙ ap (λ (n : ℕ). Some (record (store_area memory cursors) { held = sectors_held memory.transactions - own n })) long;
      records = parts.records;
      above = added_above laws told s memory.client (append_call memory t action undo_next flush) happened reply mid entry store.valid step parts.records;
    }

-- what is kept beside the log, with other transactions and cells
abbrev pub now_of : Memory → List Transaction → List ℕ → Memory
now_of memory transactions cells = record memory { transactions = transactions; cells = cells }

pub grows_by : (s u : State) (memory : Memory) (cursors : List Cursor) (entry : LogEntry) → Added s u memory cursors entry → Grows s u
grows_by s u memory cursors entry a = record { streams = a.streams; more = entry ∷ []; records = a.records }
