-- What the clients of a race have made, as the journal that it leaves.
use Rattle.std.proofs.Common.{◌≡◌, ℕ, zero, suc, ◌≤◌, ◌<◌, ◌-◌, Bool, true, false, refl, sym, ap, subst, ◌∙◌, List, [], ◌∷◌, ◌++◌, length, map, take, drop, inl, inr, arith}
use Rattle.std.specs.Prelude.{◌==◌, ◌&&◌, All, Contains, slice_index_or}
use Rattle.std.specs.List.{range_with_len}
use Rattle.std.proofs.lemmas.Bool.{cases_Bool, eqb-true, eq-eqb}
use Rattle.std.proofs.lemmas.List.{take_all, length-take, length-map, append-nil, take-append-drop}
use Rattle.std.proofs.lemmas.List.Elements.{All-nil, All-head, All-tail, All-cons, All-map, All-from_get_or, Contains-get_or}
use Rattle.std.proofs.lemmas.List.FromFn.{length-range_with_len, get_or-range_with_len}
use mathlib.Core.List.{IsPrefix}
use Rattle.clfs_disk.specs.State.{DiskState}
use Rattle.clfs_turn.specs.Lists.{is_in}
use Rattle.clfs_turn.specs.Seats.{IsNewSeat, IsSameSeat, HasSeen}
use Rattle.clfs_model.specs.declared.call.Call.{Call}
use Rattle.clfs_model.specs.declared.journal.Entry.{Entry}
use Rattle.clfs_model.specs.declared.state.State.{State}
use Rattle.clfs_model.specs.Conditions.{IsClient}
use Rattle.clfs_model.specs.Journals.{ClientScript, IsShuffle, mine}
use Rattle.clfs_model.specs.Run.{Request}
use Rattle.clfs_race.specs.Divided.{clients_of, calls_in, is_of}
use Rattle.clfs_race.specs.Scripts.{calls_asked, scripts_of}
use Rattle.clfs_shared.specs.Journal.{client_of}
use Rattle.clfs_shared.specs.Reached.{opening_of, reached_at_once}
use Rattle.clfs_shared.specs.Sessions.{SessionState, SharedState, IsOf, own_entries}
use Rattle.clfs_operations.specs.Made.{calls_of, HasMadeSome}
use Rattle.clfs_operations.specs.Raced.{IsShuffleOfFronts}
use Rattle.clfs_operations.specs.Ran.{has_all, HasRun}

-- ---- three lists in step

-- each session went on by some calls of its script
abbrev pub AllMade : List SessionState → List SessionState → List ClientScript → Type 0
AllMade [] [] [] = Unit {0}
AllMade (s ∷ ss) (t ∷ ts) (script ∷ scripts) = HasMadeSome s t script.calls × AllMade ss ts scripts
AllMade _ _ _ = ⊥

pub all_made : (ss ts : List SessionState) (scripts : List ClientScript) → length ss ≡ length scripts → length ts ≡ length ss
    → ((i : ℕ) (s : SessionState) (script : ClientScript) → i < length scripts
    → HasMadeSome (slice_index_or ss i s) (slice_index_or ts i s) (slice_index_or scripts i script).calls) → AllMade ss ts scripts
all_made [] [] [] many same each = tt
all_made [] (t ∷ ts) scripts many same each = absurd (omega (arith, same))
all_made [] [] (script ∷ scripts) many same each = absurd (omega (arith, many))
all_made (s ∷ ss) [] scripts many same each = absurd (omega (arith, same))
all_made (s ∷ ss) (t ∷ ts) [] many same each = absurd (omega (arith, many))
all_made (s ∷ ss) (t ∷ ts) (script ∷ scripts) many same each =
    (each 0 s script (omega arith), all_made ss ts scripts (omega (arith, many)) (omega (arith, same)) (λ i d e below. each (suc i) d e (omega (arith, below))))

-- ---- the sessions afterwards

abbrev clients_in : List SessionState → List ℕ
clients_in sessions = map (λ (s : SessionState). s.client) sessions

pub same_clients : (ss ts : List SessionState) (scripts : List ClientScript) → AllMade ss ts scripts
    → map (λ (s : SessionState). s.client) ts ≡ map (λ (s : SessionState). s.client) ss
same_clients [] [] [] made = refl
same_clients [] (t ∷ ts) scripts made = absurd made
same_clients [] [] (script ∷ scripts) made = absurd made
same_clients (s ∷ ss) [] scripts made = absurd made
same_clients (s ∷ ss) (t ∷ ts) [] made = absurd made
same_clients (s ∷ ss) (t ∷ ts) (script ∷ scripts) made =
    ap (λ (c : ℕ). c ∷ clients_in ts) made.0.made.same.client ∙ ap (λ (cs : List ℕ). s.client ∷ cs) (same_clients ss ts scripts made.1)

-- a client at the front, and one after it
first_in : (c : ℕ) (cs : List ℕ) → is_in c (c ∷ cs) ≡ true
first_in c cs = let t : (c == c) ≡ true = eq-eqb c c refl in rw t refl

behind_in : (c first : ℕ) (cs : List ℕ) → is_in c cs ≡ true → is_in c (first ∷ cs) ≡ true
behind_in c first cs is = elim (cases_Bool (first == c)) [ inl t ↦ rw t refl | inr t ↦ rw t is ]

-- new sessions are of their log
pub new_are_of : (log : SharedState) (ss : List SessionState) → All (λ (s : SessionState). IsNewSeat log s) ss
    → ((c : ℕ) → is_in c (clients_in ss) ≡ true → is_in c log.clients ≡ true) → All (λ (s : SessionState). IsOf log s) ss
new_are_of log [] new in_it = All-nil (λ (s : SessionState). IsOf log s)
new_are_of log (s ∷ ss) new in_it =
    let first : IsNewSeat log s = All-head (λ (x : SessionState). IsNewSeat log x) s ss new in
    All-cons (λ (x : SessionState). IsOf log x) s ss
    (record { lock = first.lock; opening = first.opening; client = in_it s.client (first_in s.client (clients_in ss)) })
    (new_are_of log ss (All-tail (λ (x : SessionState). IsNewSeat log x) s ss new) (λ c is. in_it c (behind_in c s.client (clients_in ss) is)))

-- and stay so
pub still_of : (log : SharedState) (ss ts : List SessionState) (scripts : List ClientScript) → AllMade ss ts scripts
    → All (λ (s : SessionState). IsOf log s) ss → All (λ (s : SessionState). IsOf log s) ts
still_of log [] [] [] made are = are
still_of log [] (t ∷ ts) scripts made are = absurd made
still_of log [] [] (script ∷ scripts) made are = absurd made
still_of log (s ∷ ss) [] scripts made are = absurd made
still_of log (s ∷ ss) (t ∷ ts) [] made are = absurd made
still_of log (s ∷ ss) (t ∷ ts) (script ∷ scripts) made are =
    let first : IsOf log s = All-head (λ (x : SessionState). IsOf log x) s ss are in
    let same : IsSameSeat s t = made.0.made.same in
    All-cons (λ (x : SessionState). IsOf log x) t ts
    (record {
      lock = same.lock ∙ first.lock;
      opening = same.opening ∙ first.opening;
      client = ap (λ (c : ℕ). is_in c log.clients) same.client ∙ first.client;
    })
    (still_of log ss ts scripts made.1 (All-tail (λ (x : SessionState). IsOf log x) s ss are))

-- ---- the journal, client by client

-- of the script's client the journal has some calls, the first ones in order
pub record HasFront (journal : List Entry) (script : ClientScript) : Type 0 where
  pub count : ℕ
  pub few : count ≤ length script.calls
  pub are : calls_of (mine journal script.client) ≡ take count script.calls

front_of : (journal : List Entry) (log : SharedState) (s t : SessionState) (script : ClientScript) → HasMadeSome s t script.calls → IsNewSeat log s
    → s.client ≡ script.client → HasSeen client_of journal t → HasFront journal script
front_of journal log s t script made new client seen =
    let none : own_entries s ≡ [] = ap (λ (es : List Entry). mine es s.client) new.seen in
    let named : t.client ≡ script.client = made.made.same.client ∙ client in
    record {
      count = made.count;
      few = made.few;
      are = ap (λ (c : ℕ). calls_of (mine journal c)) (sym named) ∙ ap calls_of (sym seen.own) ∙ made.made.calls_are
          ∙ ap (λ (es : List Entry). calls_of es ++ take made.count script.calls) none;
    }

pub fronts_of : (journal : List Entry) (log : SharedState) (ss ts : List SessionState) (scripts : List ClientScript) → AllMade ss ts scripts
    → All (λ (s : SessionState). IsNewSeat log s) ss → clients_in ss ≡ clients_of scripts → All (λ (s : SessionState). HasSeen client_of journal s) ts
    → All (HasFront journal) scripts
fronts_of journal log [] [] [] made new clients seen = All-nil (HasFront journal)
fronts_of journal log [] (t ∷ ts) scripts made new clients seen = absurd made
fronts_of journal log [] [] (script ∷ scripts) made new clients seen = absurd made
fronts_of journal log (s ∷ ss) [] scripts made new clients seen = absurd made
fronts_of journal log (s ∷ ss) (t ∷ ts) [] made new clients seen = absurd made
fronts_of journal log (s ∷ ss) (t ∷ ts) (script ∷ scripts) made new clients seen =
    let head : s.client ≡ script.client = cc clients in
    let tail : clients_in ss ≡ clients_of scripts = cc clients in
    All-cons (HasFront journal) script scripts
    (front_of journal log s t script made.0 (All-head (λ (x : SessionState). IsNewSeat log x) s ss new) head
    (All-head (λ (x : SessionState). HasSeen client_of journal x) t ts seen))
    (fronts_of journal log ss ts scripts made.1 (All-tail (λ (x : SessionState). IsNewSeat log x) s ss new) tail
    (All-tail (λ (x : SessionState). HasSeen client_of journal x) t ts seen))

-- a client's calls in the journal are a front of its script
front_in : (journal : List Entry) (scripts : List ClientScript) → All (HasFront journal) scripts → (client : ℕ)
    → (is_in client (clients_of scripts) ≡ false → mine journal client ≡ []) → IsPrefix (calls_of (mine journal client)) (calls_in scripts client)
front_in journal [] fronts client none = ([], append-nil (calls_of (mine journal client)) ∙ ap calls_of (none refl))
front_in journal (script ∷ scripts) fronts client none = elim (cases_Bool (is_of client script)) [
  | inl t ↦
      let front : HasFront journal script = All-head (HasFront journal) script scripts fronts in
      let named : script.client ≡ client = eqb-true script.client client t in
      let are : take front.count script.calls ≡ calls_of (mine journal client) = sym front.are ∙ ap (λ (c : ℕ). calls_of (mine journal c)) named in
      rw t (subst (λ (calls : List Call). IsPrefix calls script.calls) are (drop front.count script.calls, take-append-drop front.count script.calls))
  | inr t ↦ rw t (front_in journal scripts (All-tail (HasFront journal) script scripts fronts) client (λ absent. none (rw t absent)))
]

-- where each client has as many entries as calls they are its script
whole_in : (journal : List Entry) (scripts : List ClientScript) → All (HasFront journal) scripts → has_all journal scripts ≡ true → (client : ℕ)
    → (is_in client (clients_of scripts) ≡ false → mine journal client ≡ []) → calls_of (mine journal client) ≡ calls_in scripts client
whole_in journal [] fronts all client none = ap calls_of (none refl)
whole_in journal (script ∷ scripts) fronts all client none =
    let parts = and_parts (length (mine journal script.client) == length script.calls) (has_all journal scripts) all in
    elim (cases_Bool (is_of client script)) [
      | inl t ↦
          let front : HasFront journal script = All-head (HasFront journal) script scripts fronts in
          let named : script.client ≡ client = eqb-true script.client client t in
          let many : length (mine journal script.client) ≡ length script.calls = eqb-true (length (mine journal script.client)) (length script.calls) parts.0 in
          rw t (ap (λ (c : ℕ). calls_of (mine journal c)) (sym named) ∙ front.are
          ∙ take_all front.count script.calls (enough journal script front many))
      | inr t ↦ rw t (whole_in journal scripts (All-tail (HasFront journal) script scripts fronts) parts.1 client (λ absent. none (rw t absent)))
    ]
  where
    and_parts : (a b : Bool) → (a && b) ≡ true → (a ≡ true) × (b ≡ true)
    and_parts true b e = (refl, e)
    and_parts false b e = absurd (cc e)

    enough : (es : List Entry) (k : ClientScript) (front : HasFront es k) → length (mine es k.client) ≡ length k.calls → length k.calls ≤ front.count
    enough es k front many =
        let a : length (calls_of (mine es k.client)) ≡ length (take front.count k.calls) = ap length front.are in
        omega (arith, a, many, length-map (mine es k.client) (λ (e : Entry). e.call), length-take front.count k.calls, front.few)

-- no entry is of another client
own_is_there : (journal : List Entry) (i : ℕ) (d : Entry) → i < length journal → mine journal (slice_index_or journal i d).client ≡ [] → ⊥
own_is_there [] i d below none = absurd (omega (arith, below))
own_is_there (entry ∷ journal) zero d below none =
    let t : (entry.client == entry.client) ≡ true = eq-eqb entry.client entry.client refl in
    let some : mine (entry ∷ journal) entry.client ≡ entry ∷ mine journal entry.client = rw t refl in
    let never : entry ∷ mine journal entry.client ≡ [] = sym some ∙ none in cc never
own_is_there (entry ∷ journal) (suc i) d below none = elim (cases_Bool (entry.client == (slice_index_or journal i d).client)) [
  | inl t ↦ let never = rw t at none in cc never
  | inr t ↦ own_is_there journal i d (omega (arith, below)) (rw t at none)
]

clients_are : (journal : List Entry) (clients : List ℕ) → ((c : ℕ) → is_in c clients ≡ false → mine journal c ≡ [])
    → ((c : ℕ) → is_in c clients ≡ true → IsClient c) → All (λ (entry : Entry). IsClient entry.client) journal
clients_are [] clients none are = All-nil (λ (entry : Entry). IsClient entry.client)
clients_are (first ∷ journal) clients none are =
    All-from_get_or (λ (entry : Entry). IsClient entry.client) (first ∷ journal) first
    (λ i below. let c = (slice_index_or (first ∷ journal) i first).client in
    by_test c (own_is_there (first ∷ journal) i first below))
  where
    by_test : (c : ℕ) → (mine (first ∷ journal) c ≡ [] → ⊥) → IsClient c
    by_test c some = elim (cases_Bool (is_in c clients)) [ inl t ↦ are c t | inr t ↦ absurd (some (none c t)) ]

-- there are as many sessions as scripts
pub as_many : (ss : List SessionState) (scripts : List ClientScript) → map (λ (s : SessionState). s.client) ss ≡ clients_of scripts → length ss ≡ length scripts
as_many ss scripts same =
    let n = ap length same in
    omega (arith, n, length-map ss (λ (s : SessionState). s.client), length-map scripts (λ (script : ClientScript). script.client))

-- ---- all of it

-- no call was made
pub none_ran : (s : State) (disk : DiskState) (scripts : List ClientScript) (whole : Bool) → (whole ≡ true → length scripts ≡ 0)
    → HasRun (opening_of s disk) scripts disk s [] whole
none_ran s disk scripts whole empty = record {
  reached = reached_at_once s disk [] refl;
  fronts = λ client. (calls_in scripts client, refl);
  all = λ w client. none scripts client (empty w);
  clients = All-nil (λ (entry : Entry). IsClient entry.client);
}
  where
    none : (ks : List ClientScript) (client : ℕ) → length ks ≡ 0 → [] ≡ calls_in ks client
    none [] client e = refl
    none (k ∷ ks) client e = absurd (omega (arith, e))

module _ (journal : List Entry) (log : SharedState) (ss ts : List SessionState) (scripts : List ClientScript) (made : AllMade ss ts scripts)
    (new : All (λ (s : SessionState). IsNewSeat log s) ss) (clients : map (λ (s : SessionState). s.client) ss ≡ clients_of scripts)
    (seen : All (λ (s : SessionState). HasSeen client_of journal s) ts) (others : (c : ℕ) → is_in c (clients_of scripts) ≡ false → mine journal c ≡ []) where
  pub fronts_in : (client : ℕ) → IsPrefix (calls_of (mine journal client)) (calls_in scripts client)
  fronts_in client = front_in journal scripts (fronts_of journal log ss ts scripts made new clients seen) client (others client)

  pub all_in : has_all journal scripts ≡ true → (client : ℕ) → calls_of (mine journal client) ≡ calls_in scripts client
  all_in all client = whole_in journal scripts (fronts_of journal log ss ts scripts made new clients seen) all client (others client)

  pub clients_in_range : ((c : ℕ) → is_in c (clients_of scripts) ≡ true → IsClient c) → All (λ (entry : Entry). IsClient entry.client) journal
  clients_in_range are = clients_are journal (clients_of scripts) others are

-- ---- shuffles

every : {X : Type 0} (P : X → Type 0) (xs : List X) → ((x : X) → P x) → All P xs
every P [] all = All-nil P
every P (x ∷ xs) all = All-cons P x xs (all x) (every P xs all)

weaker : {X : Type 0} (P Q : X → Type 0) (xs : List X) → ((x : X) → P x → Q x) → All P xs → All Q xs
weaker P Q [] more all = All-nil Q
weaker P Q (x ∷ xs) more all = All-cons Q x xs (more x (All-head P x xs all)) (weaker P Q xs more (All-tail P x xs all))

same_range : (requests : List Request) (xs : List ℕ)
    → map (λ (script : ClientScript). script.client) (map (λ (client : ℕ). record { client = client; calls = calls_asked client requests }) xs) ≡ xs
same_range requests [] = refl
same_range requests (x ∷ xs) = ap (λ (ys : List ℕ). x ∷ ys) (same_range requests xs)

in_range : (client : ℕ) → IsClient client → Contains (range_with_len 1 64) client
in_range client is =
    let at : slice_index_or (range_with_len 1 64) (client - 1) 0 ≡ client = get_or-range_with_len 1 64 (client - 1) 0 (omega (arith, is.least, is.greatest)) ∙ (omega (arith, is.least)) in
    subst (λ (c : ℕ). Contains (range_with_len 1 64) c) at
    (Contains-get_or (range_with_len 1 64) (client - 1) 0 (omega (arith, is.least, is.greatest, length-range_with_len 1 64)))

none_else : (journal : List Entry) (requests : List Request) → All (λ (entry : Entry). IsClient entry.client) journal
    → All (λ (entry : Entry). Contains (map (λ (script : ClientScript). script.client) (scripts_of requests)) entry.client) journal
none_else journal requests clients =
    weaker (λ (entry : Entry). IsClient entry.client) _ journal
    (λ entry is. subst (λ (cs : List ℕ). Contains cs entry.client) (sym (same_range requests (range_with_len 1 64))) (in_range entry.client is)) clients

pub is_shuffle : (journal : List Entry) (scripts : List ClientScript) (requests : List Request) → ((client : ℕ) → calls_in scripts client ≡ calls_asked client requests)
    → ((client : ℕ) → calls_of (mine journal client) ≡ calls_in scripts client) → All (λ (entry : Entry). IsClient entry.client) journal
    → IsShuffle journal (scripts_of requests)
is_shuffle journal scripts requests asked made clients = record {
  each = All-map (λ (script : ClientScript). calls_of (mine journal script.client) ≡ script.calls) (λ (client : ℕ). record { client = client; calls = calls_asked client requests })
      (range_with_len 1 64) (every (λ (client : ℕ). calls_of (mine journal client) ≡ calls_asked client requests) (range_with_len 1 64) (λ client. made client ∙ asked client));
  none_else = none_else journal requests clients;
}

pub is_shuffle_of_fronts : (journal : List Entry) (scripts : List ClientScript) (requests : List Request)
    → ((client : ℕ) → calls_in scripts client ≡ calls_asked client requests) → ((client : ℕ) → IsPrefix (calls_of (mine journal client)) (calls_in scripts client))
    → All (λ (entry : Entry). IsClient entry.client) journal → IsShuffleOfFronts journal (scripts_of requests)
is_shuffle_of_fronts journal scripts requests asked made clients = record {
  each = All-map (λ (script : ClientScript). IsPrefix (calls_of (mine journal script.client)) script.calls) (λ (client : ℕ). record { client = client; calls = calls_asked client requests })
      (range_with_len 1 64) (every (λ (client : ℕ). IsPrefix (calls_of (mine journal client)) (calls_asked client requests)) (range_with_len 1 64)
      (λ client. subst (λ (calls : List Call). IsPrefix (calls_of (mine journal client)) calls) (asked client) (made client)));
  none_else = none_else journal requests clients;
}
