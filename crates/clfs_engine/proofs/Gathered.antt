-- From the sessions of a log that was just shared to what closing it tells of a crowd.
use Rattle.std.proofs.Common.{◌≡◌, ℕ, suc, ◌+◌, ◌≤◌, ◌<◌, Bool, true, false, refl, sym, ap, ap₂, subst, ◌∙◌, List, [], ◌∷◌, ◌++◌, length, map, arith, drop, length-drop}
use Rattle.std.specs.Prelude.{◌&&◌, All, nat_lt, slice_index_or, sum_by}
use Rattle.std.proofs.lemmas.List.{length-map, length_push, map_push}
use Rattle.std.proofs.lemmas.List.Elements.{All-append, All-cons, All-drop, All-from_recursion, All-map, All-nil, All-push, All-same, All-weaker}
use Rattle.std.proofs.lemmas.Nat.{mul-le}
use Rattle.clfs_disk.specs.State.{DiskState}
use Rattle.clfs_model.specs.declared.call.Call.{Call}
use Rattle.clfs_model.specs.declared.call.Call.TheVariants as calls
use Rattle.clfs_model.specs.declared.journal.Entry.{Entry}
use Rattle.clfs_model.specs.declared.reply.Reply.{Reply}
use Rattle.clfs_model.specs.declared.reply.Reply.TheVariants as replies
use Rattle.clfs_model.specs.declared.state.State.{State}
use Rattle.clfs_model.specs.Conditions.{IsClient}
use Rattle.clfs_model.specs.Journals.{mine}
use Rattle.clfs_model.specs.Valid.{IsValid}
use Rattle.clfs_turn.specs.Lists.{are_distinct, is_in}
use Rattle.clfs_turn.specs.Seats.{HasSeen, IsNewSeat, IsSameSeat}
use Rattle.clfs_shared.specs.Journal.{client_of, entry_of}
use Rattle.clfs_shared.specs.Reached.{IsReached}
use Rattle.clfs_shared.specs.Sessions.{SessionState, SharedState, IsOf, IsStepped, own_entries}
use Rattle.clfs_group.specs.Groups.{HasGroupEntries, is_flush_by, making}
use Rattle.clfs_command.specs.Command.{most_crew_records, most_crew_threads}
use Rattle.clfs_engine.specs.Commits.{IsGathered, IsMember, IsQuiet, MemberState, client_of_member, has_made, is_quiet_work}
use Rattle.clfs_engine.specs.Crew.{is_placed, placed_in}
use Rattle.clfs_engine.specs.Crowd.{crowd_log, is_placed_below, placed_below}
use Rattle.clfs_engine.specs.Work.{NeverFails}
use Rattle.clfs_engine.proofs.Commits.{HasFew}
use Rattle.clfs_engine.proofs.Crews.{still_of}
use Rattle.clfs_engine.proofs.Crowds.{Closing, and_true, distinct_drop, fine_entries, is_client_of, one_if, own_appends, placed_are_appends, sum_le}

-- ---- sessions

-- a session that has seen nothing has made no call
pub none_made : (log : SharedState) (sessions : List SessionState) → All (λ (s : SessionState). IsNewSeat log s) sessions
    → All (λ (s : SessionState). own_entries s ≡ []) sessions
none_made log sessions new =
    All-weaker (λ (s : SessionState). IsNewSeat log s) (λ (s : SessionState). own_entries s ≡ []) (λ s is. ap (λ (es : List Entry). mine es s.client) is.seen) sessions new

-- the clients of the sessions that are left, and of the last one
pub clients_left : (sessions rest : List SessionState) (last : SessionState) → sessions ≡ rest ++ last ∷ []
    → map (λ (s : SessionState). s.client) sessions ≡ map (λ (s : SessionState). s.client) rest ++ last.client ∷ []
clients_left sessions rest last is =
    let f : SessionState → ℕ = λ s. s.client in
    ap (map f) is ∙ map_push f rest last

-- ---- the group's session

-- when it has opened the stream
pub quiet_opened : (log : SharedState) (s t : SessionState) (call : Call) (reply : Reply) → IsOf log s → own_entries s ≡ [] → IsSameSeat s t
    → IsStepped s t call reply → is_quiet_work call ≡ true → IsQuiet log t
quiet_opened log s t call reply of none same z quiet =
    let Q : Entry → Type 0 = λ e. is_quiet_work e.call ≡ true in
    let e : Entry = entry_of s.client (length (own_entries s) + 1) call reply in record {
      of = still_of log s t of same;
      are = All-same Q (own_entries t) (e ∷ []) (z.grew ∙ ap (λ (es : List Entry). es ++ e ∷ []) none) (All-cons Q e [] quiet (All-nil Q));
    }

quiet_flush : (area : ℕ) (call : Call) → is_flush_by area call ≡ true → is_quiet_work call ≡ true
quiet_flush area (calls.FlushTo number lsn) is = refl
quiet_flush area _ is = absurd (cc is)

-- when its group has ended
pub quiet_ended : (log : SharedState) (first t : SessionState) (stream area : ℕ) → IsQuiet log first → IsSameSeat first t → HasGroupEntries first stream area t
    → IsQuiet log t
quiet_ended log first t stream area quiet same has =
    let Q : Entry → Type 0 = λ e. is_quiet_work e.call ≡ true in
    let F : Entry → Type 0 = λ e. is_flush_by area e.call ≡ true in
    let e : Entry = entry_of first.client (length (own_entries first) + 1) (making stream) (replies.Area area) in record {
      of = still_of log first t quiet.of same;
      are = All-same Q (own_entries t) (own_entries first ++ e ∷ has.flushes) has.entries
          (All-append Q (own_entries first) (e ∷ has.flushes) quiet.are
          (All-cons Q e has.flushes refl (All-weaker F Q (λ x is. quiet_flush area x.call is) has.flushes has.are)));
    }

-- ---- members that are done

-- members whose clients are those of others, one by one
same_clients : (xs ys : List MemberState) → length xs ≡ length ys
    → ((k : ℕ) (d : MemberState) → k < length ys → client_of_member (slice_index_or xs k d) ≡ client_of_member (slice_index_or ys k d))
    → map client_of_member xs ≡ map client_of_member ys
same_clients [] [] long each = refl
same_clients [] (y ∷ ys) long each = absurd (omega (arith, long))
same_clients (x ∷ xs) [] long each = absurd (omega (arith, long))
same_clients (x ∷ xs) (y ∷ ys) long each =
    ap₂ (λ (c : ℕ) (cs : List ℕ). c ∷ cs) (each 0 x (omega arith)) (same_clients xs ys (omega (arith, long)) (λ k d less. each (suc k) d (omega (arith, less))))

-- of no entries more are such appends below an LSN than are such appends at all
below_are_placed : (lsn : ℕ) (es : List Entry) → placed_below lsn es ≤ placed_in es
below_are_placed lsn es = sum_le (λ (e : Entry). one_if (is_placed_below lsn e.call e.reply)) (λ (e : Entry). one_if (is_placed e.call e.reply)) es
    (λ k d less. at_one (slice_index_or es k d).call (slice_index_or es k d).reply)
  where
    at_most : (b : Bool) → one_if b ≤ 1
    at_most true = omega arith
    at_most false = omega arith

    at_one : (call : Call) (reply : Reply) → one_if (is_placed_below lsn call reply) ≤ one_if (is_placed call reply)
    at_one (calls.Append area draft is_reserved sizes) (replies.Placed at) = at_most (nat_lt at lsn)
    at_one (calls.Append area draft is_reserved sizes) _ = omega arith
    at_one _ reply = omega arith

-- the counts of a member are at most those that were asked for
pub few_counts : (log : SharedState) (count : ℕ) (members : List MemberState) → count ≤ most_crew_records
    → All (λ (m : MemberState). IsMember log m × (has_made m ≤ count)) members → All HasFew members
few_counts log count members few are = All-weaker (λ (m : MemberState). IsMember log m × (has_made m ≤ count)) HasFew (λ m is. one m is.0 is.1) members are
  where
    one : (m : MemberState) → IsMember log m → has_made m ≤ count → HasFew m
    one m is made =
        let most = own_appends log m is in
        let placed = placed_are_appends (own_entries m.session) in
        let counted = is.placed in
        let below = below_are_placed is.mark (own_entries m.session) in
        let stable = is.on_disk in
        (omega (arith, few, made, most, placed, counted), omega (arith, few, made, most, placed, below, stable))

members_clients : (members : List MemberState) → map (λ (s : SessionState). s.client) (map (λ (m : MemberState). m.session) members) ≡ map client_of_member members
members_clients [] = refl
members_clients (m ∷ members) = ap (λ (cs : List ℕ). m.session.client ∷ cs) (members_clients members)

-- all sessions of members that are done, with that of the group
pub gathered_all : (log : SharedState) (count records stable : ℕ) (sessions rest all : List SessionState) (last ended : SessionState) (before members : List MemberState)
    → sessions ≡ rest ++ last ∷ [] → map client_of_member before ≡ map (λ (s : SessionState). s.client) rest → length members ≡ length before
    → ((k : ℕ) (d : MemberState) → k < length before → client_of_member (slice_index_or members k d) ≡ client_of_member (slice_index_or before k d))
    → ended.client ≡ last.client → All (λ (m : MemberState). IsMember log m × (has_made m ≤ count)) members → IsQuiet log ended
    → all ≡ map (λ (m : MemberState). m.session) members ++ ended ∷ [] → records ≡ sum_by (λ (m : MemberState). m.records) members
    → stable ≡ sum_by (λ (m : MemberState). m.stable) members
    → IsGathered log count all records stable × (map (λ (s : SessionState). s.client) all ≡ map (λ (s : SessionState). s.client) sessions)
gathered_all log count records stable sessions rest all last ended before members popped clients long each same are quiet is records_are stable_are =
    let f : SessionState → ℕ = λ s. s.client in
    let g : MemberState → SessionState = λ m. m.session in
    let theirs : map f (map g members) ≡ map f rest = members_clients members ∙ (same_clients members before long each ∙ clients) in (
      record { members = members; ended = ended; are = are; quiet = quiet; sessions_are = is; records_are = records_are; stable_are = stable_are },
      ap (map f) is ∙ (map_push f (map g members) ended ∙ (ap₂ (λ (cs : List ℕ) (c : ℕ). cs ++ c ∷ []) theirs same ∙ sym (clients_left sessions rest last popped))),
    )

-- ---- closing the log

-- all sessions are the log's
pub all_of_log : (log : SharedState) (count records stable : ℕ) (sessions : List SessionState) → IsGathered log count sessions records stable
    → All (λ (s : SessionState). IsOf log s) sessions
all_of_log log count records stable sessions g =
    let P : SessionState → Type 0 = λ s. IsOf log s in
    let f : MemberState → SessionState = λ m. m.session in
    All-same P sessions (map f g.members ++ g.ended ∷ []) g.sessions_are
    (All-push P (map f g.members) g.ended (All-map P f g.members (λ k d less. (g.are k d less).0.of)) g.quiet.of)

-- what closing tells of the sessions
pub closes : (log : SharedState) (threads count records stable : ℕ) (sessions : List SessionState) (journal : List Entry) (last : State) (disk : DiskState)
    → log.opening.state ≡ crowd_log → NeverFails log → IsValid log.opening.state → are_distinct log.clients ≡ true → length log.clients ≡ threads + 1
    → threads ≤ most_crew_threads → count ≤ most_crew_records → (g : IsGathered log count sessions records stable)
    → map (λ (s : SessionState). s.client) sessions ≡ log.clients → All (λ (s : SessionState). HasSeen client_of journal s) sessions
    → ((c : ℕ) → is_in c log.clients ≡ false → mine journal c ≡ []) → IsReached log.opening disk last journal
    → Closing log threads count g.members g.ended journal last
closes log threads count records stable sessions journal last disk begins never valid apart many few_threads few_records g clients seen others reached =
    let f : SessionState → ℕ = λ s. s.client in
    let of_session : MemberState → SessionState = λ m. m.session in
    let parts = and_true (log.opening.is_steady && log.opening.tells_contents) log.opening.is_whole never.calm in
    let tells : log.opening.tells_contents ≡ true = (and_true log.opening.is_steady log.opening.tells_contents parts.0).1 in
    let by_clients = length-map sessions f in
    let as_clients : length (map f sessions) ≡ length log.clients = ap length clients in
    let as_sessions : length sessions ≡ length (map of_session g.members ++ g.ended ∷ []) = ap length g.sessions_are in
    let pushed = length_push (map of_session g.members) g.ended in
    let by_members = length-map g.members of_session in record {
      begins = begins;
      never = never;
      tells = tells;
      valid = valid;
      apart = apart;
      clients = ap (map f) (sym g.sessions_are) ∙ clients;
      are = g.are;
      quiet = g.quiet;
      many = omega (arith, by_clients, as_clients, as_sessions, pushed, by_members, many);
      few = mul-le threads count most_crew_threads most_crew_records few_threads few_records;
      seen = subst (All (λ (s : SessionState). HasSeen client_of journal s)) g.sessions_are seen;
      others = others;
      legal = reached.legal;
      fine = fine_entries journal (reached.calm never.calm) (reached.damage tells);
    }

-- ---- the clients of a crowd

-- the clients of the largest crowd, the last of which makes the flushes
abbrev pub most_clients : List ℕ
most_clients = 8 ∷ 7 ∷ 6 ∷ 5 ∷ 4 ∷ 3 ∷ 2 ∷ 1 ∷ 64 ∷ []

-- those of a smaller one are its end: they are apart, each is a client, and there is one more than threads
pub record AreClients (threads : ℕ) (clients : List ℕ) : Type 0 where
  pub apart : are_distinct clients ≡ true
  pub ranges : (c : ℕ) → is_in c clients ≡ true → IsClient c
  pub many : length clients ≡ threads + 1

pub clients_are : (threads n : ℕ) (clients : List ℕ) → n + threads ≡ 8 → clients ≡ drop n most_clients → AreClients threads clients
clients_are threads n clients fits is =
    let P : ℕ → Type 0 = λ c. (1 ≤ c) × (c ≤ 64) in
    let all : All P most_clients = All-from_recursion P most_clients ((omega arith, omega arith), ((omega arith, omega arith), ((omega arith, omega arith), ((omega arith, omega arith), ((omega arith, omega arith), ((omega arith, omega arith), ((omega arith, omega arith), ((omega arith, omega arith), ((omega arith, omega arith), tt))))))))) in
    let long : length clients ≡ length (drop n most_clients) = ap length is in
    let left = length-drop n most_clients in record {
      apart = ap are_distinct is ∙ distinct_drop n most_clients refl;
      ranges = λ c inside. is_client_of c clients (All-same P clients (drop n most_clients) is (All-drop P n most_clients all)) inside;
      many = omega (arith, long, left, fits);
    }
