-- What a journal has of a client that ended.
use Rattle.std.proofs.Common.{◌≡◌, ℕ, ◌+◌, Bool, refl, sym, ap, subst, ◌∙◌, List, [], ◌∷◌, ◌++◌, length, map}
use Rattle.std.specs.Prelude.{All, Option, Some, None}
use Rattle.std.specs.Option.{option_map}
use Rattle.clfs_lsn.specs.Limits.{most_areas}
use Rattle.clfs_model.specs.declared.journal.Entry.{Entry}
use Rattle.clfs_model.specs.declared.state.Area.{Area}
use Rattle.clfs_model.specs.declared.state.State.{State}
use Rattle.clfs_model.specs.Journals.{IsLegal, mine}
use Rattle.clfs_model.specs.State.{area_of}
use Rattle.clfs_laws.specs.Rows.{row_of, row_in, row_through}
use Rattle.clfs_turn.specs.Seats.{HasSeen, IsSameSeat}
use Rattle.clfs_lines.specs.Through.{AnswersThrough, AnswersInPart}
use Rattle.clfs_shared.specs.declared.opening.Opening.{Opening}
use Rattle.clfs_shared.specs.Journal.{client_of}
use Rattle.clfs_shared.specs.Sessions.{SessionState, own_entries}
use Rattle.clfs_share.specs.declared.pairs.ClientEnd.{ClientEnd}
use Rattle.clfs_share.specs.declared.pairs.ClientEnd.TheVariants.{Served, NotOpened, NoThread}
use Rattle.clfs_share.specs.declared.pairs.EndedClient.{EndedClient}
use Rattle.clfs_share.specs.Answered.{AnswersLine}
use Rattle.clfs_share.specs.declared.openers.Openers as Openers
use Rattle.clfs_share.specs.Ended.{EndsAs}
use Rattle.clfs_share.specs.Heard.{AreHeard, Serves, WasHeard}
use Rattle.clfs_share.specs.Left.{deletions, own_row, EndsArea}
use Rattle.clfs_share.specs.Made.{all_made, calls_made, AreReplies}
use Rattle.clfs_lines.specs.declared.incomplete.IncompleteLine.TheVariants.{Dropped}
use Rattle.clfs_share.specs.Served.{IsServed, client_limits}
use Rattle.clfs_share.specs.Taken.{AreTaken, IsAnswered, IsAnsweredInPart, IsTaken, IsTakenAs}
use Rattle.clfs_share.proofs.Replying.{answered_alone, ends_as, in_part_alone}
use Rattle.clfs_share.proofs.Making.{same_seats}

-- own entries say what a client's areas are
abbrev pub RowsLaw : Type 0
RowsLaw = (told : Bool) (s t : State) (journal : List Entry) (client number : ℕ) → IsLegal told journal s t
    → row_in t client number ≡ row_through number (row_in s client number) (mine journal client)

pub no_area : (found : Option Area) → option_map row_of found ≡ None → found ≡ None
no_area None is = refl
no_area (Some area) is = absurd (cc is)

-- a new session has no entries of its own
pub none_own : (s : SessionState) → s.seen ≡ [] → own_entries s ≡ []
none_own s none = ap (λ (z : List Entry). mine z s.client) none

module _ (rows : RowsLaw) (journal : List Entry) (last : State) (s t : SessionState) (new : s.seen ≡ []) (seen : HasSeen client_of journal t)
    (legal : IsLegal s.opening.tells_contents journal s.opening.state last) where
  -- the journal has of the client what its session has seen
  own_of : IsSameSeat s t → mine journal s.client ≡ own_entries t
  own_of same = ap (λ (c : ℕ). mine journal c) (sym same.client) ∙ sym seen.own

  -- an area that isn't there by the client's own entries isn't there
  no_own_area : IsSameSeat s t → (number : ℕ) → own_row number t ≡ None → area_of last s.client number ≡ None
  no_own_area same number none = no_area (area_of last s.client number)
      (rows s.opening.tells_contents s.opening.state last journal s.client number legal
      ∙ ap (λ (z : List Entry). row_through number (row_in s.opening.state s.client number) z) (own_of same)
      ∙ ap (λ (c : ℕ). row_through number (row_in s.opening.state c number) (own_entries t)) (sym same.client)
      ∙ ap (λ (o : Opening). row_through number (row_in o.state t.client number) (own_entries t)) (sym same.opening)
      ∙ none)

  served_taken : (status : ℕ) (left left' written written' : Option (List ℕ)) (source source' sink sink' : ℕ)
      → IsServed s t status left left' written written' source source' sink sink'
      → IsTaken journal last s.client status left left' written written' source source' sink sink'
  served_taken status left left' written written' source source' sink sink' served = record {
    calls = all_made (own_entries between);
    ends = ends_as client_limits Dropped (AnswersThrough AnswersLine s between) (IsAnswered s.client (all_made (own_entries between)))
        (AnswersInPart AnswersLine s between) (IsAnsweredInPart s.client (all_made (own_entries between))) status left left' written written' source source' sink sink'
        (answered_alone s between (none_own s new)) (in_part_alone s between (none_own s new)) served.ends;
    answers = served.leaves.answers;
    deleted = let F : ℕ → Type 0 = λ c. AreReplies (deletions c most_areas) served.leaves.answers in subst F served.same.client served.leaves.answered;
    entries = ap all_made (own_of same) ∙ served.leaves.entries
        ∙ ap (λ (c : ℕ). all_made (own_entries between) ++ calls_made (deletions c most_areas) served.leaves.answers) served.same.client;
    leaves = let F : List Entry → Type 0 = λ own. All (EndsArea (length own)) served.leaves.answers in subst F (sym (own_of same)) served.leaves.ends;
    gone = λ all number least most. no_own_area same number (served.leaves.gone all number least most);
  }
    where
      between : SessionState
      between = served.between

      same : IsSameSeat s t
      same = same_seats s between t served.same served.leaves.same

  -- a session that has made no call since it was new
  none_taken : t ≡ s → mine journal s.client ≡ []
  none_taken is = ap (λ (c : ℕ). mine journal c) (sym (ap (λ (x : SessionState). x.client) is)) ∙ sym seen.own
      ∙ ap (λ (x : SessionState). own_entries x) is ∙ none_own s new

  module _ {P S K : Type 0} (opening : Openers.Ghosts P S K) (left : S → Option (List ℕ)) (source_faults : S → ℕ) (written : K → Option (List ℕ)) (sink_faults : K → ℕ) where
    taken_as : (end : ClientEnd) (openers after : P) (ports : Option (S × K)) → EndsAs opening left source_faults written sink_faults end openers after ports s t
        → IsTakenAs opening left source_faults written sink_faults journal last end s.client openers after ports
    taken_as (Served status) openers after ports is = record {
      source = is.source;
      sink = is.sink;
      between = is.between;
      opened = is.opened;
      closed = is.closed;
      source_after = is.source_after;
      sink_after = is.sink_after;
      are = is.are;
      taken = served_taken status (left is.source) (left is.source_after) (written is.sink) (written is.sink_after)
          (source_faults is.source) (source_faults is.source_after) (sink_faults is.sink) (sink_faults is.sink_after) is.served;
    }
    taken_as NotOpened openers after ports is = (none_taken is.0, is.1)
    taken_as NoThread openers after ports is = (none_taken is.0, is.1)

-- ---- all clients

module _ {P S K : Type 0} (opening : Openers.Ghosts P S K) (left : S → Option (List ℕ)) (source_faults : S → ℕ) (written : K → Option (List ℕ)) (sink_faults : K → ℕ) (rows : RowsLaw) (o : Opening)
    (journal : List Entry) (last : State) (legal : IsLegal o.tells_contents journal o.state last) where
  -- a client with one source and one sink, before it ended and then
  abbrev EndsPair : Serves (EndedClient P S K)
  EndsPair old s new t = EndsAs opening left source_faults written sink_faults new.end old.openers new.openers new.ports s t

  abbrev openers_of : EndedClient P S K → P
  openers_of client = client.openers

  one_taken : (number : ℕ) (openers : P) (ended : EndedClient P S K) → WasHeard openers_of EndsPair o journal number openers ended
      → IsTakenAs opening left source_faults written sink_faults journal last ended.end number openers ended.openers ended.ports
  one_taken number openers ended heard =
      let L : Opening → Type 0 = λ x. IsLegal x.tells_contents journal x.state last in
      let F : ℕ → Type 0 = λ c. IsTakenAs opening left source_faults written sink_faults journal last ended.end c openers ended.openers ended.ports in
      let G : P → Type 0 = λ x. IsTakenAs opening left source_faults written sink_faults journal last ended.end heard.session.client x ended.openers ended.ports in
      subst F heard.number (subst G heard.is (taken_as rows journal last heard.session heard.left heard.seen heard.heard (subst L (sym heard.begins) legal)
      opening left source_faults written sink_faults ended.end heard.begun.openers ended.openers ended.ports heard.served))

  pub all_taken : (number : ℕ) (openers : List P) (ends : List (EndedClient P S K)) → AreHeard openers_of EndsPair o journal number openers ends
      → AreTaken opening left source_faults written sink_faults journal last number openers ends
  all_taken number [] [] heard = tt
  all_taken number [] (ended ∷ others) heard = absurd heard
  all_taken number (openers ∷ more) [] heard = absurd heard
  all_taken number (openers ∷ more) (ended ∷ others) heard = (one_taken number openers ended heard.0, all_taken (number + 1) more others heard.1)
