-- The sessions of clients on their way to the threads and back, and what the journal has of them then.
use Rattle.std.proofs.Common.{◌≡◌, ℕ, ◌+◌, true, false, refl, sym, ap, subst, ◌∙◌, inl, inr, List, [], ◌∷◌, length, map, reverse, arith}
use Rattle.std.specs.Prelude.{All}
use Rattle.std.specs.List.{AllByRecursion, range_with_len}
use Rattle.std.proofs.lemmas.List.{length-map}
use Rattle.std.proofs.lemmas.List.Elements.{All-from_recursion, recursion_from_All}
use Rattle.clfs_model.specs.declared.journal.Entry.{Entry}
use Rattle.clfs_model.specs.Journals.{mine}
use Rattle.clfs_turn.specs.Lists.{is_in}
use Rattle.clfs_turn.specs.Seats.{HasSeen, IsNewSeat}
use Rattle.clfs_shared.specs.declared.opening.Opening.{Opening}
use Rattle.clfs_shared.specs.Journal.{client_of}
use Rattle.clfs_shared.specs.Sessions.{SessionState, SharedState, IsOf}
use Rattle.clfs_share.specs.declared.clients.Client.{Client}
use Rattle.clfs_share.specs.Heard.{AreHeard, HasEnded, HaveEnded, Serves, service_of, WasHeard}
use Rattle.clfs_share.specs.Taken.{IsOfClients}
use Rattle.clfs_share.proofs.Ending.{all_back, all_mapped, all_unmapped, ended_clients, ended_log, ended_reversed}
use Rattle.clfs_share.proofs.Numbers.{below_range, past_range}

-- a session that has seen nothing, of a log that began so
record BeginsIn (o : Opening) (s : SessionState) : Type 0 where
  pub seen : s.seen ≡ []
  pub opening : s.opening ≡ o

first_is : {a b : ℕ} {xs ys : List ℕ} → a ∷ xs ≡ b ∷ ys → a ≡ b
first_is is = cc is

rest_is : {a b : ℕ} {xs ys : List ℕ} → a ∷ xs ≡ b ∷ ys → xs ≡ ys
rest_is is = cc is

-- what a journal has heard of clients that ended
module _ {P C : Type 0} (begun_by : C → P) (serves : Serves C) (o : Opening) (journal : List Entry) where
  one_heard : (number : ℕ) (old new : Client C) → HasEnded serves old new → BeginsIn o old.session → old.session.client ≡ number
      → HasSeen client_of journal new.session → WasHeard begun_by serves o journal number (begun_by old.service) new.service
  one_heard number old new ended begins is seen = record {
    begun = old.service;
    is = refl;
    session = old.session;
    seen = begins.seen;
    begins = begins.opening;
    number = is;
    left = new.session;
    same = ended.same;
    heard = seen;
    served = ended.served;
  }

  all_heard : (number : ℕ) (olds news : List (Client C)) → HaveEnded serves olds news → AllByRecursion (λ (c : Client C). BeginsIn o c.session) olds
      → map (λ (c : Client C). c.session.client) olds ≡ range_with_len number (length olds)
      → AllByRecursion (λ (c : Client C). HasSeen client_of journal c.session) news
      → AreHeard begun_by serves o journal number (map (λ (c : Client C). begun_by c.service) olds) (map service_of news)
  all_heard number [] [] ended begin are seen = tt
  all_heard number [] (new ∷ news) ended begin are seen = absurd ended
  all_heard number (old ∷ olds) [] ended begin are seen = absurd ended
  all_heard number (old ∷ olds) (new ∷ news) ended begin are seen = (
    one_heard number old new ended.0 begin.0 (first_is are) seen.0,
    all_heard (number + 1) olds news ended.1 begin.1 (rest_is are) seen.1,
  )

module _ {C : Type 0} where
  -- the session of a client
  abbrev session_of : Client C → SessionState
  session_of client = client.session

  clients_of : (clients : List (Client C)) → map (λ (s : SessionState). s.client) (map session_of clients) ≡ map (λ (c : Client C). c.session.client) clients
  clients_of [] = refl
  clients_of (client ∷ clients) = ap (λ (z : List ℕ). client.session.client ∷ z) (clients_of clients)

  -- what is true of sessions is true of those of their clients, in the other order
  each_session : (Q : SessionState → Type 0) (sessions : List SessionState) (clients : List (Client C)) → map session_of (reverse clients) ≡ sessions
      → All Q sessions → AllByRecursion (λ (c : Client C). Q c.session) (reverse clients)
  each_session Q sessions clients are all =
      let F : List SessionState → Type 0 = λ z. AllByRecursion Q z in
      all_unmapped session_of Q (reverse clients) (subst F (sym are) (recursion_from_All Q sessions all))

  pub belong : (log : SharedState) (sessions : List SessionState) (clients : List (Client C)) → map session_of (reverse clients) ≡ sessions
      → All (λ (s : SessionState). IsOf log s) sessions → All (λ (c : Client C). IsOf log c.session) clients
  belong log sessions clients are all =
      All-from_recursion (λ (c : Client C). IsOf log c.session) clients
      (all_back (λ (c : Client C). IsOf log c.session) clients (each_session (λ (s : SessionState). IsOf log s) sessions clients are all))

module _ {P C : Type 0} (begun_by : C → P) (serves : Serves C) (log : SharedState)
    (sessions back : List SessionState) (olds news : List (Client C)) (are : map session_of (reverse olds) ≡ sessions) (back_are : back ≡ map session_of (reverse news))
    (each : HaveEnded serves olds news) where
  ended : HaveEnded serves (reverse olds) (reverse news)
  ended = ended_reversed serves olds news each

  -- the sessions that come back are of the same log
  pub back_belong : All (λ (s : SessionState). IsOf log s) sessions → All (λ (s : SessionState). IsOf log s) back
  back_belong all =
      let F : List SessionState → Type 0 = λ z. All (λ (s : SessionState). IsOf log s) z in
      subst F (sym back_are) (All-from_recursion (λ (s : SessionState). IsOf log s) (map session_of (reverse news))
      (all_mapped session_of (λ (s : SessionState). IsOf log s) (reverse news)
      (ended_log serves log (reverse olds) (reverse news) ended (each_session (λ (s : SessionState). IsOf log s) sessions olds are all))))

  -- and of the same clients
  back_clients : map (λ (s : SessionState). s.client) back ≡ map (λ (s : SessionState). s.client) sessions
  back_clients =
      ap (λ (z : List SessionState). map (λ (s : SessionState). s.client) z) back_are
      ∙ clients_of (reverse news)
      ∙ ended_clients serves (reverse olds) (reverse news) ended
      ∙ sym (clients_of (reverse olds))
      ∙ ap (λ (z : List SessionState). map (λ (s : SessionState). s.client) z) are

  pub all_back_there : map (λ (s : SessionState). s.client) sessions ≡ log.clients → (c : ℕ) → is_in c log.clients ≡ true
      → is_in c (map (λ (s : SessionState). s.client) back) ≡ true
  all_back_there clients c inside = ap (λ (z : List ℕ). is_in c z) (back_clients ∙ clients) ∙ inside

  -- what the journal has heard of them
  pub heard : (journal : List Entry) (openers : List P) (ends : List C)
      → map (λ (c : Client C). begun_by c.service) (reverse olds) ≡ openers → ends ≡ map service_of (reverse news) → All (λ (s : SessionState). IsNewSeat log s) sessions
      → map (λ (s : SessionState). s.client) sessions ≡ log.clients → log.clients ≡ range_with_len 1 (length openers)
      → All (λ (s : SessionState). HasSeen client_of journal s) back
      → AreHeard begun_by serves log.opening journal 1 openers ends
  heard journal openers ends openers_are ends_are new clients numbers seen =
      let F : List P → Type 0 = λ z. AreHeard begun_by serves log.opening journal 1 z ends in
      let G : List C → Type 0 = λ z. AreHeard begun_by serves log.opening journal 1 (map (λ (c : Client C). begun_by c.service) (reverse olds)) z in
      subst F openers_are (subst G (sym ends_are) (all_heard begun_by serves log.opening journal 1 (reverse olds) (reverse news) ended
      (begin (reverse olds) (each_session (λ (s : SessionState). IsNewSeat log s) sessions olds are new))
      (sym (clients_of (reverse olds)) ∙ ap (λ (z : List SessionState). map (λ (s : SessionState). s.client) z) are ∙ clients ∙ numbers
      ∙ ap (λ (n : ℕ). range_with_len 1 n) (sym (ap (λ (z : List P). length z) openers_are) ∙ length-map (reverse olds) (λ (c : Client C). begun_by c.service)))
      (each_session (λ (s : SessionState). HasSeen client_of journal s) back news (sym back_are) seen)))
    where
      begin : (clients : List (Client C)) → AllByRecursion (λ (c : Client C). IsNewSeat log c.session) clients
          → AllByRecursion (λ (c : Client C). BeginsIn log.opening c.session) clients
      begin [] all = tt
      begin (client ∷ clients) all = (record { seen = all.0.seen; opening = all.0.opening }, begin clients all.1)

-- nobody else made a call
pub others_none : (clients : List ℕ) (count : ℕ) (journal : List Entry) → clients ≡ range_with_len 1 count
    → ((c : ℕ) → is_in c clients ≡ false → mine journal c ≡ []) → IsOfClients count journal
others_none clients count journal are others c (inl zero) = others c (ap (λ (z : List ℕ). is_in c z) are ∙ below_range 1 count c (omega (arith, zero)))
others_none clients count journal are others c (inr past) = others c (ap (λ (z : List ℕ). is_in c z) are ∙ past_range count c past)
