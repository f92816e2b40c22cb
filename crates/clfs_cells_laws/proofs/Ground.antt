-- What loading stands on once the client has its area, and what it comes to.
use Rattle.clfs_cells_laws.proofs.Words.{◌≡◌, ℕ, ◌<◌, ◌≤◌, Bool, true, false, refl, sym, subst, ap, ◌∙◌, inl, inr, List, [], Option, Some, None, Ok, Err}
use Rattle.clfs_cells_laws.proofs.Words.{◌==◌, if◌then◌else◌, find, filter, is_none, reverse, slice_get, AllByRecursion, last_or, option_map, option_map_or}
use Rattle.clfs_cells_laws.proofs.Words.{option_and_then, is_restart, null_lsn, Cursor, LogEntry, Call, Refusal, Reply, Area, State, answer, flushed, live}
use Rattle.clfs_cells_laws.proofs.Words.{lsn_or_null, refusal, stream_number, need_of, next_lsn, grown, areas_of, base_of, stream_at, Comes, IsDamaged}
use Rattle.clfs_cells_laws.proofs.Words.{with_broken, Checkpoint, TxnRecord, TxnLoadRefusal, Log, NotATable, blank_cells, checkpoint_of, txn_record_of}
use Rattle.clfs_cells_laws.proofs.Words.{first_restart, load_refusal, table_area, table_stream, Loaded, area_largest, area_reads, gives_up, last_number}
use Rattle.clfs_cells_laws.proofs.Words.{stopped, Plan, calls, ends, CarriesOut, changed, committed, table, table_name, IsLoadCause, IsLoaded, IsNotLoaded}
use Rattle.std.specs.List.{filter_map}
use Rattle.clfs_model.specs.declared.call.Call.TheVariants as calls
use Rattle.clfs_model.specs.declared.refusal.Refusal.TheVariants as refusals
use Rattle.clfs_model.specs.declared.reply.Reply.TheVariants as replies
use Rattle.clfs_cells.specs.Loaded.{last_of}
use Rattle.clfs_cells_laws.proofs.OwnArea.{with_own, find_own, delete_own}
use Rattle.clfs_cells_laws.proofs.Ways.{Way, called, came, lacked, refused, faulted, damaged, broken_way, by_reply}
use Rattle.clfs_cells_laws.proofs.Above.{Rises, above}

-- ---- what is read of a list of live records

abbrev pub newest_in : List LogEntry → Option LogEntry
newest_in xs = slice_get (reverse (filter (λ (entry : LogEntry). is_restart entry.kind) xs)) 0

abbrev pub after_in : List LogEntry → List LogEntry
after_in xs = above (lsn_or_null (newest_in xs)) xs

abbrev pub spelled : List LogEntry → List TxnRecord
spelled xs = filter_map (λ (entry : LogEntry). txn_record_of entry.bytes) xs

abbrev pub strange : LogEntry → Bool
strange entry = is_none (txn_record_of entry.bytes)

abbrev pub restart_in : List LogEntry → Option Checkpoint
restart_in xs = option_and_then (λ (entry : LogEntry). checkpoint_of entry.bytes) (newest_in xs)

abbrev pub cells_in : List LogEntry → List ℕ
cells_in xs = changed (option_map_or (λ (c : Checkpoint). c.cells) (restart_in xs) blank_cells) (committed (spelled (after_in xs)))

abbrev pub last_in : List LogEntry → ℕ
last_in xs = last_number (option_map_or (λ (c : Checkpoint). c.last) (restart_in xs) 0) (spelled (after_in xs))

abbrev pub stranger_in : List LogEntry → Option ℕ
stranger_in xs = option_map (λ (entry : LogEntry). entry.lsn) (find strange (after_in xs))

abbrev pub no_table_in : List LogEntry → Option ℕ
no_table_in xs = option_map_or
    (λ (restart : LogEntry). if is_none (checkpoint_of restart.bytes) then Some restart.lsn else stranger_in xs)
    (newest_in xs) (Some (lsn_or_null (last_or None xs)))

-- ---- the log

-- the client's area, with these cursors
abbrev pub own_area : ℕ → ℕ → ℕ → List Cursor → Area
own_area client number stream cursors = record {
  client = client;
  number = number;
  stream = stream;
  largest = area_largest;
  reads = area_reads;
  held = 0;
  cursors = cursors;
}

-- A log with the table's stream, on which the client has no area but one that is made now.
pub record Ground : Type 0 where
  pub told : Bool
  pub log : State
  pub base : State
  pub client : ℕ
  pub number : ℕ
  pub stream : ℕ
  pub log_whole : log.broken ≡ false
  pub whole : base.broken ≡ false
  pub none : areas_of base client ≡ []
  pub stream_there : is_none (stream_at base stream) ≡ false
  pub numbered : stream_number base table_name ≡ Some stream
  pub named : AllByRecursion (λ (entry : LogEntry). 0 < entry.lsn) (live base stream)
  pub rising : Rises (live base stream)
  pub there : (lsn : ℕ) (entry : LogEntry) → find (λ (e : LogEntry). e.lsn == lsn) (live base stream) ≡ Some entry
      → find (λ (e : LogEntry). e.lsn == lsn) (live log (table_stream log)) ≡ Some entry
  pub table_is : table log ≡ cells_in (live base stream)
  pub table_same : (t : State) → t.records ≡ base.records → t.streams ≡ base.streams → table t ≡ table log
  pub last_is : last_of log ≡ last_in (live base stream)
  pub first_area : table_area log client ≡ own_area client number stream []
  pub first_high : refusal (with_own base (own_area client number stream [])) client (first_restart number) ≡ None
      → base_of base stream ≤ next_lsn (grown (with_own base (own_area client number stream [])) (need_of false 260 [])) 260
  pub refusal_is : load_refusal log client ≡ (if lsn_or_null (last_or None (live base stream)) == null_lsn
      then option_map Log (refusal (with_own base (own_area client number stream [])) client (first_restart number))
      else option_map NotATable (no_table_in (live base stream)))

-- the log with the area
abbrev pub at : Ground → List Cursor → State
at g cursors = with_own g.base (own_area g.client g.number g.stream cursors)

-- what loading comes to
abbrev pub End : Ground → Loaded → State → Type 0
End g (Ok memory) t = IsLoaded g.told g.log g.client memory t
End g (Err cause) t = IsNotLoaded g.told g.log g.client cause t

pub end_by : (g : Ground) (r s : Loaded) (t u : State) → r ≡ s → t ≡ u → End g s u → End g r t
end_by g r s t u p q is = subst (λ (x : Loaded). End g x t) (sym p) (subst (λ (x : State). End g s x) (sym q) is)

-- ---- giving up

not_loaded : (g : Ground) (cause : TxnLoadRefusal) → IsLoadCause g.told g.log g.client cause → End g (Err cause) g.base
not_loaded g cause is = record { caused = is; left = inr g.none; table = g.table_same g.base refl refl }

deleted : (g : Ground) (cursors : List Cursor) (reply : Reply) (mid : State) → Way g.told (at g cursors) g.client (calls.DeleteArea g.number) reply mid
    → mid ≡ g.base
deleted g cursors reply mid (lacked takes _ _) = absurd (cc takes)
deleted g cursors reply mid (came none comes) = comes.1 ∙ delete_own g.base (own_area g.client g.number g.stream cursors) g.none
deleted g cursors reply mid (refused first is _ _) =
    let none : refusal (at g cursors) g.client (calls.DeleteArea g.number) ≡ None
    = ap (λ (o : Option Area). option_map_or (λ _. None) o (Some refusals.NoSuchArea)) (find_own g.base (own_area g.client g.number g.stream cursors) g.none) in
    let both : None ≡ Some first = sym none ∙ is in absurd (cc both)
deleted g cursors reply mid (faulted called _ _) = absurd (cc called)
deleted g cursors reply mid (damaged read _ _) = absurd (cc read)

pub given_up : (g : Ground) (cursors : List Cursor) (cause : TxnLoadRefusal) (r : Loaded) (t : State) → IsLoadCause g.told g.log g.client cause
    → CarriesOut g.told g.client (at g cursors) (gives_up g.number cause) r t → End g r t
given_up g cursors cause r t is carries =
    let c = called g.told g.client (at g cursors) (calls.DeleteArea g.number) (λ _. ends (Err cause)) r t g.whole carries in
    end_by g r (Err cause) t g.base c.behind.0 (c.behind.1 ∙ deleted g cursors c.reply c.mid c.went) (not_loaded g cause is)

-- the log broke
pub given_up_broken : (g : Ground) (cursors : List Cursor) (s : State) (cause : TxnLoadRefusal) (r : Loaded) (t : State) → IsLoadCause g.told g.log g.client cause
    → s ≡ with_broken (at g cursors) → CarriesOut g.told g.client s (gives_up g.number cause) r t → End g r t
given_up_broken g cursors s cause r t is at_s (happened, reply, mid, (step, behind)) =
    let broken : s.broken ≡ true = ap (λ (x : State). x.broken) at_s in
    let stays = broken_way g.told s g.client (calls.DeleteArea g.number) happened reply mid broken step in
    end_by g r (Err cause) t (with_broken (at g cursors)) behind.0 (behind.1 ∙ stays.1 ∙ at_s)
    (record { caused = is; left = inl refl; table = g.table_same (with_broken (at g cursors)) refl refl })

-- ---- one call of the log, of which nothing is left but an answer or a refusal of its own

damage_of : (reply : Reply) → IsDamaged reply → (container : ℕ) × (offset : ℕ) × (byte : ℕ) × (reply ≡ replies.Refused (refusals.Damaged container offset byte))
damage_of (replies.Refused (refusals.Damaged container offset byte)) is = (container, offset, byte, refl)
damage_of _ is = absurd is

-- out of memory, a fault and damage stop it
pub record Stops (g : Ground) (rest : Reply → Plan Loaded) : Type 0 where
  pub memory : rest (replies.Refused refusals.NoMemory) ≡ stopped g.number refusals.NoMemory
  pub fault : rest (replies.Refused refusals.DiskFault) ≡ stopped g.number refusals.DiskFault
  pub damage : (container offset byte : ℕ)
      → rest (replies.Refused (refusals.Damaged container offset byte)) ≡ stopped g.number (refusals.Damaged container offset byte)

pub data Met (g : Ground) (cursors : List Cursor) (call : Call) (rest : Reply → Plan Loaded) (r : Loaded) (t : State) : Type 0 where
  done : End g r t → Met g cursors call rest r t
  gave : (reply : Reply) (mid : State) → refusal (at g cursors) g.client call ≡ None
      → Comes g.told (flushed (at g cursors)) (answer (at g cursors) g.client call) reply mid → CarriesOut g.told g.client mid (rest reply) r t → Met g cursors call rest r t
  denied : (first : Refusal) → refusal (at g cursors) g.client call ≡ Some first → CarriesOut g.told g.client (at g cursors) (rest (replies.Refused first)) r t
      → Met g cursors call rest r t

stop_here : (g : Ground) (cursors : List Cursor) (rest : Reply → Plan Loaded) (given : Refusal) (reply : Reply) (mid : State) (r : Loaded) (t : State)
    → rest (replies.Refused given) ≡ stopped g.number given → IsLoadCause g.told g.log g.client (Log given) → reply ≡ replies.Refused given → mid ≡ at g cursors
    → CarriesOut g.told g.client mid (rest reply) r t → End g r t
stop_here g cursors rest given reply mid r t stops is told same behind =
    given_up g cursors (Log given) r t is (subst (λ (p : Plan Loaded). CarriesOut g.told g.client (at g cursors) p r t) stops
    (by_reply g.told g.client mid rest reply (replies.Refused given) mid (at g cursors) r t told same behind))

stop_broken : (g : Ground) (cursors : List Cursor) (rest : Reply → Plan Loaded) (given : Refusal) (reply : Reply) (mid : State) (r : Loaded) (t : State)
    → rest (replies.Refused given) ≡ stopped g.number given → IsLoadCause g.told g.log g.client (Log given) → reply ≡ replies.Refused given
    → mid ≡ with_broken (at g cursors) → CarriesOut g.told g.client mid (rest reply) r t → End g r t
stop_broken g cursors rest given reply mid r t stops is told same behind =
    given_up_broken g cursors mid (Log given) r t is same (subst (λ (p : Plan Loaded). CarriesOut g.told g.client mid p r t) stops
    (by_reply g.told g.client mid rest reply (replies.Refused given) mid mid r t told refl behind))

met_way : (g : Ground) (cursors : List Cursor) (call : Call) (rest : Reply → Plan Loaded) (r : Loaded) (t : State) (reply : Reply) (mid : State) → Stops g rest
    → Way g.told (at g cursors) g.client call reply mid → CarriesOut g.told g.client mid (rest reply) r t → Met g cursors call rest r t
met_way g cursors call rest r t reply mid stops (lacked takes told same) behind =
    done (stop_here g cursors rest refusals.NoMemory reply mid r t stops.memory g.log_whole told same behind)
met_way g cursors call rest r t reply mid stops (came none comes) behind = gave reply mid none comes behind
met_way g cursors call rest r t reply mid stops (refused first is told same) behind =
    denied first is (by_reply g.told g.client mid rest reply (replies.Refused first) mid (at g cursors) r t told same behind)
met_way g cursors call rest r t reply mid stops (faulted called told same) behind =
    done (stop_broken g cursors rest refusals.DiskFault reply mid r t stops.fault g.log_whole told same behind)
met_way g cursors call rest r t reply mid stops (damaged read is same) behind =
    let d = damage_of reply is in
    done (stop_broken g cursors rest (refusals.Damaged d.0 d.1 d.2) reply mid r t (stops.damage d.0 d.1 d.2) g.log_whole d.3 same behind)

pub met : (g : Ground) (cursors : List Cursor) (call : Call) (rest : Reply → Plan Loaded) (r : Loaded) (t : State) → Stops g rest
    → CarriesOut g.told g.client (at g cursors) (calls call rest) r t → Met g cursors call rest r t
met g cursors call rest r t stops carries =
    let c = called g.told g.client (at g cursors) call rest r t g.whole carries in met_way g cursors call rest r t c.reply c.mid stops c.went c.behind
