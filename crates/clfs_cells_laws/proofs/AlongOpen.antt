-- Loading from its beginning: the stream is opened, and the client gets its area.
use Rattle.clfs_cells_laws.proofs.Words.{◌≡◌, ℕ, zero, suc, ◌+◌, ◌-◌, ◌<◌, ◌≤◌, Bool, true, false, refl, sym, subst, ap, ◌∙◌, inl, inr, arith, List, [], ◌∷◌}
use Rattle.clfs_cells_laws.proofs.Words.{◌++◌, length, Option, Some, None, Err, ◌==◌, filter, find, nat_lt, slice_get, AllByRecursion, option_map_or}
use Rattle.clfs_cells_laws.proofs.Words.{cases_Bool, recursion_from_All, is_restart, null_lsn, frontier, stream_number_from, LogEntry, Stream, Call, Happened}
use Rattle.clfs_cells_laws.proofs.Words.{Reply, Area, State, Outcome, answer, outcome, unused_area, flushed, live, lsn_or_null, newest_restart, stream_number}
use Rattle.clfs_cells_laws.proofs.Words.{Request, asks, area_of, areas_of, base_of, is_area, IsReply, Step, HasBases, IsSurvivor, IsRecord, IsValid}
use Rattle.clfs_cells_laws.proofs.Words.{blank_cells, table_stream, with_stream, area_largest, area_reads, load_area, load_plan, ends, on_area, on_stream}
use Rattle.clfs_cells_laws.proofs.Words.{records_after, table, table_in, table_name, Along, CountsForNothing, IsSafe, IsSafeFrom, IsSafeLog, LeavesEither}
use Rattle.clfs_cells_laws.proofs.Words.{LoadsSafe}
use Rattle.clfs_model.specs.declared.call.Call.TheVariants as calls
use Rattle.clfs_model.specs.declared.reply.Reply.TheVariants as replies
use Rattle.clfs_model.specs.Answers.{new_area}
use Rattle.clfs_cells.specs.declared.told.TxnLoadRefusal.TheVariants as denials
use Rattle.clfs_cells.specs.Plans.{calls as then_calls}
use Rattle.clfs_cells_laws.proofs.Along.{IsOf, IsOwn, IsTable, Rising, fine_state}
use Rattle.clfs_cells_laws.proofs.AlongLoad.{area_along, quiet_log_left}
use Rattle.clfs_cells_laws.proofs.Dropped.{left_table}
use Rattle.clfs_cells_laws.proofs.LeftBy.{quiet_left, restarts_under, streams_are}
use Rattle.clfs_cells_laws.proofs.Loads.{area_as, stream_as, table_of_base}
use Rattle.clfs_cells_laws.proofs.Opening.{none_of_it, opens}
use Rattle.clfs_cells_laws.proofs.OwnArea.{find_own, with_own}
use Rattle.clfs_cells_laws.proofs.OwnCalls.{Laws}
use Rattle.clfs_cells_laws.proofs.Ways.{Way, came, damaged, faulted, lacked, refused, way}

-- ---- a client without areas

abbrev of_client : ℕ → Area → Bool
of_client client area = area.client == client

none_there : (client number : ℕ) (areas : List Area) → filter (of_client client) areas ≡ [] → find (is_area client number) areas ≡ None
none_there client number [] none = refl
none_there client number (a ∷ areas) none = elim (cases_Bool (of_client client a)) [
  | inl own ↦ let some : a ∷ filter (of_client client) areas ≡ [] = rw own at none in absurd (cc some)
  | inr other ↦
      let rest : filter (of_client client) areas ≡ [] = rw other at none in
      let not : is_area client number a ≡ false = rw other refl in
      rw not (none_there client number areas rest)
]

no_own : (client number stream : ℕ) (l : State) → areas_of l client ≡ [] → IsOwn client number stream l
no_own client number stream l none a is =
    let no : None ≡ Some a = sym (none_there client number l.areas none) ∙ is in absurd (cc no)

-- ---- a stream that is new

abbrev wide : State → State
wide log = record log { streams = log.streams ++ record { name = table_name; base = null_lsn } ∷ [] }

-- its base is what one that isn't there has
at_last : (streams : List Stream) (k : ℕ) → option_map_or (λ (x : Stream). x.base) (slice_get (streams ++ record { name = table_name; base = null_lsn } ∷ []) k) null_lsn
    ≡ option_map_or (λ (x : Stream). x.base) (slice_get streams k) null_lsn
at_last [] zero = refl
at_last [] (suc k) = refl
at_last (x ∷ streams) zero = refl
at_last (x ∷ streams) (suc k) = at_last streams k

bases_wide : (log : State) (k : ℕ) → base_of (wide log) k ≡ base_of log k
bases_wide log k = elim (cases_Bool (k == 0)) [
  | inl null ↦ rw null refl
  | inr some ↦ rw some (at_last log.streams (k - 1))
]

-- the log with the stream, by whether it had it
is_same : (log : State) (n : ℕ) → stream_number log table_name ≡ Some n → with_stream log ≡ log
is_same log n is = ap (λ (o : Option ℕ). (option_map_or (λ number. outcome (replies.Stream number) log) o (outcome (replies.Stream (length log.streams + 1)) (wide log))).state) is

is_wide : (log : State) → stream_number log table_name ≡ None → with_stream log ≡ wide log
is_wide log is = ap (λ (o : Option ℕ). (option_map_or (λ number. outcome (replies.Stream number) log) o (outcome (replies.Stream (length log.streams + 1)) (wide log))).state) is

none_live : (log : State) → IsValid log → stream_number log table_name ≡ None → live (with_stream log) (table_stream log) ≡ []
none_live log valid is =
    let o = opens log valid in
    let number : table_stream log ≡ length log.streams + 1 = ap (λ (x : Option ℕ). option_map_or (λ (k : ℕ). k) x (length log.streams + 1)) is in
    o.same_live ∙ none_of_it log log (table_stream log) log.records (omega (arith, number)) (recursion_from_All (IsRecord log) log.records valid.records.records)

-- nothing in it counts
stream_safe : (bound : ℕ) (log : State) → IsValid log → stream_number log table_name ≡ None → IsSafeFrom bound (with_stream log) (table_stream log)
stream_safe bound log valid is =
    let none = none_live log valid is in
    let n : ℕ = lsn_or_null (newest_restart (with_stream log) (table_stream log)) in
    subst (λ (l : List LogEntry). AllByRecursion (λ (e : LogEntry). bound ≤ e.lsn → CountsForNothing (records_after (with_stream log) (table_stream log)) e)
    (filter (λ (e : LogEntry). nat_lt n e.lsn) l)) (sym none) tt

with_stream_safe : (log : State) → IsValid log → IsSafeLog log → IsSafe (with_stream log) (table_stream log)
with_stream_safe log valid safe = by (stream_number log table_name) refl
  where
    by : (o : Option ℕ) → stream_number log table_name ≡ o → IsSafe (with_stream log) (table_stream log)
    by None is = stream_safe (flushed (with_stream log)) log valid is
    by (Some n) is =
        let number : table_stream log ≡ n = ap (λ (x : Option ℕ). option_map_or (λ (k : ℕ). k) x (length log.streams + 1)) is in
        subst (λ (x : State). IsSafe x (table_stream log)) (sym (is_same log n is)) (subst (IsSafe log) (sym number) (safe n is))

-- ---- the stream is opened

no_name : (s x : State) → x.streams ≡ s.streams → stream_number s table_name ≡ None → stream_number x table_name ≡ None
no_name s x same is = ap (λ (l : List Stream). stream_number_from 1 table_name l) same ∙ is

wide_left : (asked : Request) (log x : State) → IsValid log → stream_number log table_name ≡ None → IsSurvivor asked log (with_stream log) x → table x ≡ table log
wide_left asked log x valid is survives =
    let o = opens log valid in
    let w : State = with_stream log in
    let bound : ℕ = frontier x.place in
    let same_bases : (k : ℕ) → base_of w k ≡ base_of log k = λ k. ap (λ (s : State). base_of s k) (is_wide log is) ∙ bases_wide log k in
    let bases : HasBases log x = λ k. elim (survives.bases k) [ inl old ↦ old | inr new ↦ new ∙ same_bases k ] in
    elim survives.settings [
      | inl old ↦
          let streams = streams_are log x old.names bases in
          ap (λ (n : Option ℕ). option_map_or (table_in x) n blank_cells) (no_name log x streams is) ∙ sym (ap (λ (n : Option ℕ). option_map_or (table_in log) n blank_cells) is)
      | inr new ↦
          let streams = streams_are w x new.names (λ k. bases k ∙ sym (same_bases k)) in
          left_table bound w x (table_stream log) (record {
            named = o.numbered;
            streams = streams;
            records = survives.records;
            restarts = subst (AllByRecursion (λ (e : LogEntry). is_restart e.kind ≡ true → e.lsn < bound)) (sym o.records) (restarts_under log bound valid survives.place.from);
            safe = stream_safe bound log valid is;
          }) ∙ table_of_base log o
    ]

open_left : (log : State) (client : ℕ) → IsValid log → log.broken ≡ false → IsSafeLog log → LeavesEither (table log) (table log) client (calls.OpenStream table_name) log
open_left log client valid whole safe x survives =
    let c : Call = calls.OpenStream table_name in
    inl (fine_state (λ (s2 : State). IsSurvivor (asks client c) log s2 x → table x ≡ table log) log client c whole
    (λ s. quiet_log_left (asks client c) log log x valid safe refl refl s) (λ none s. by (stream_number log table_name) refl s) survives)
  where
    by : (o : Option ℕ) → stream_number log table_name ≡ o → IsSurvivor (asks client (calls.OpenStream table_name)) log (with_stream log) x → table x ≡ table log
    by None is s = wide_left (asks client (calls.OpenStream table_name)) log x valid is s
    by (Some n) is s =
        let same = is_same log n is in
        quiet_log_left (asks client (calls.OpenStream table_name)) log (with_stream log) x valid safe (ap (λ (y : State). y.records) same) (ap (λ (y : State). y.streams) same) s

-- ---- all of it

module _ (laws : Laws) (rising : Rising) (most : ℕ) (log : State) (client : ℕ) (valid : IsValid log) (whole : log.broken ≡ false) (none : areas_of log client ≡ [])
    (safe : IsSafeLog log) where
  -- the log with the stream
  stream_on : IsValid (with_stream log) → (number : ℕ) → IsTable client number (table_stream log) 0 (table log) (with_stream log)
  stream_on valid_w number =
      let o = opens log valid in record {
        valid = valid_w;
        whole = o.broken ∙ whole;
        named = o.numbered;
        own = no_own client number (table_stream log) (with_stream log) (ap (filter (λ (area : Area). area.client == client)) o.areas ∙ none);
        is = table_of_base log o;
        uncommitted = λ some. absurd (omega (arith, some));
        safe = with_stream_safe log valid safe;
      }

  create_went : (valid_w : IsValid (with_stream log)) (happened : Happened) (reply : Reply) (mid : State)
      → Step true (with_stream log) client (calls.CreateArea (table_stream log) area_largest area_reads) happened reply mid
      → Way true (with_stream log) client (calls.CreateArea (table_stream log) area_largest area_reads) reply mid
      → Along (LeavesEither (table log) (table log) client) LoadsSafe true client mid
      (on_area (λ given. ends (Err (denials.Log given))) (λ area. load_area most client area (table_stream log)) reply)
  create_went valid_w happened reply mid step (lacked takes is at) =
      subst (λ (r : Reply). Along (LeavesEither (table log) (table log) client) LoadsSafe true client mid
      (on_area (λ given. ends (Err (denials.Log given))) (λ area. load_area most client area (table_stream log)) r)) (sym is) tt
  create_went valid_w happened reply mid step (refused first by_it is at) =
      subst (λ (r : Reply). Along (LeavesEither (table log) (table log) client) LoadsSafe true client mid
      (on_area (λ given. ends (Err (denials.Log given))) (λ area. load_area most client area (table_stream log)) r)) (sym is) tt
  create_went valid_w happened reply mid step (faulted called is at) = absurd (cc called)
  create_went valid_w happened reply mid step (damaged read is at) = absurd (cc read)
  create_went valid_w happened reply mid step (came passes comes) =
      let w : State = with_stream log in
      let on = stream_on valid_w (unused_area w client) in
      let a : Area = new_area w client (table_stream log) area_largest area_reads in
      let o = opens log valid in
      let empty : areas_of w client ≡ [] = ap (filter (λ (area : Area). area.client == client)) o.areas ∙ none in
      let at : mid ≡ with_own w a = comes.1 in
      let its : area_of mid client (unused_area w client) ≡ Some a = ap (λ (x : State). area_of x client (unused_area w client)) at ∙ find_own w a empty in
      let said = area_as true (flushed w) (unused_area w client) reply comes.0 in
      let area_on : IsTable client (unused_area w client) (table_stream log) 0 (table log) mid = record {
        valid = laws.keeps true w client (calls.CreateArea (table_stream log) area_largest area_reads) happened reply mid valid_w step;
        whole = ap (λ (x : State). x.broken) at ∙ on.whole;
        named = ap (λ (x : State). stream_number x table_name) at ∙ on.named;
        own = λ b is.
            let both : Some a ≡ Some b = sym its ∙ is in
            let same : a ≡ b = cc both in
            subst (IsOf client (unused_area w client) (table_stream log)) same (record { client_is = refl; number_is = refl; stream_is = refl });
        is = ap table at ∙ on.is;
        uncommitted = λ some. absurd (omega (arith, some));
        safe = subst (λ (x : State). IsSafe x (table_stream log)) (sym at) on.safe;
      } in
      subst (λ (r : Reply). Along (LeavesEither (table log) (table log) client) LoadsSafe true client mid
      (on_area (λ given. ends (Err (denials.Log given))) (λ area. load_area most client area (table_stream log)) r)) (sym said)
      (area_along laws rising client (unused_area w client) (table_stream log) (table log) most mid area_on)

  create_along : IsValid (with_stream log) → Along (LeavesEither (table log) (table log) client) LoadsSafe true client (with_stream log)
      (then_calls (calls.CreateArea (table_stream log) area_largest area_reads)
      (on_area (λ given. ends (Err (denials.Log given))) (λ area. load_area most client area (table_stream log))))
  create_along valid_w =
      let w : State = with_stream log in
      let on = stream_on valid_w 0 in
      let c : Call = calls.CreateArea (table_stream log) area_largest area_reads in (
        (λ _ x survives. inl (fine_state (λ (s2 : State). IsSurvivor (asks client c) w s2 x → table x ≡ table w) w client c on.whole
            (λ s. quiet_left (asks client c) w w x (table_stream log) valid_w on.named on.safe refl refl s)
            (λ _ s. quiet_left (asks client c) w (answer w client c).state x (table_stream log) valid_w on.named on.safe refl refl s) survives ∙ on.is)),
        (λ happened reply mid step. create_went valid_w happened reply mid step (way true w client c happened reply mid on.whole step)),
      )

  open_went : (happened : Happened) (reply : Reply) (mid : State) → Step true log client (calls.OpenStream table_name) happened reply mid
      → Way true log client (calls.OpenStream table_name) reply mid
      → Along (LeavesEither (table log) (table log) client) LoadsSafe true client mid
      (on_stream (λ given. ends (Err (denials.Log given))) (λ stream. then_calls (calls.CreateArea stream area_largest area_reads)
      (on_area (λ given. ends (Err (denials.Log given))) (λ area. load_area most client area stream))) reply)
  open_went happened reply mid step (lacked takes is at) =
      subst (λ (r : Reply). Along (LeavesEither (table log) (table log) client) LoadsSafe true client mid
      (on_stream (λ given. ends (Err (denials.Log given))) (λ stream. then_calls (calls.CreateArea stream area_largest area_reads)
      (on_area (λ given. ends (Err (denials.Log given))) (λ area. load_area most client area stream))) r)) (sym is) tt
  open_went happened reply mid step (refused first by_it is at) =
      subst (λ (r : Reply). Along (LeavesEither (table log) (table log) client) LoadsSafe true client mid
      (on_stream (λ given. ends (Err (denials.Log given))) (λ stream. then_calls (calls.CreateArea stream area_largest area_reads)
      (on_area (λ given. ends (Err (denials.Log given))) (λ area. load_area most client area stream))) r)) (sym is) tt
  open_went happened reply mid step (faulted called is at) =
      subst (λ (r : Reply). Along (LeavesEither (table log) (table log) client) LoadsSafe true client mid
      (on_stream (λ given. ends (Err (denials.Log given))) (λ stream. then_calls (calls.CreateArea stream area_largest area_reads)
      (on_area (λ given. ends (Err (denials.Log given))) (λ area. load_area most client area stream))) r)) (sym is) tt
  open_went happened reply mid step (damaged read is at) = absurd (cc read)
  open_went happened reply mid step (came passes comes) =
      let o = opens log valid in
      let told : IsReply true (flushed log) (replies.Stream (table_stream log)) reply
      = subst (λ (x : Outcome). IsReply true (flushed log) x.reply reply) o.answered comes.0 in
      let said = stream_as true (flushed log) (table_stream log) reply told in
      let valid_w = subst IsValid comes.1 (laws.keeps true log client (calls.OpenStream table_name) happened reply mid valid step) in
      subst (λ (x : State). Along (LeavesEither (table log) (table log) client) LoadsSafe true client x
      (on_stream (λ given. ends (Err (denials.Log given))) (λ stream. then_calls (calls.CreateArea stream area_largest area_reads)
      (on_area (λ given. ends (Err (denials.Log given))) (λ area. load_area most client area stream))) reply)) (sym comes.1)
      (subst (λ (r : Reply). Along (LeavesEither (table log) (table log) client) LoadsSafe true client (with_stream log)
      (on_stream (λ given. ends (Err (denials.Log given))) (λ stream. then_calls (calls.CreateArea stream area_largest area_reads)
      (on_area (λ given. ends (Err (denials.Log given))) (λ area. load_area most client area stream))) r)) (sym said)
      (create_along valid_w))

  pub load_along : Along (LeavesEither (table log) (table log) client) LoadsSafe true client log (load_plan most client)
  load_along = (
    (λ _. open_left log client valid whole safe),
    (λ happened reply mid step. open_went happened reply mid step (way true log client (calls.OpenStream table_name) happened reply mid whole step)),
  )
