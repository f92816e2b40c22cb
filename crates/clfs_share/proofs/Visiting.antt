-- What a journal has of a client's visits.
use Rattle.std.proofs.Common.{◌≡◌, ℕ, zero, suc, ◌+◌, ◌≤◌, Bool, refl, sym, ap, subst, ◌∙◌, inl, inr, List, [], ◌∷◌, ◌++◌, length, arith}
use Rattle.std.specs.Prelude.{All, Option, Some, None}
use Rattle.std.specs.Option.{option_map}
use Rattle.std.proofs.lemmas.List.{length-map}
use Rattle.clfs_lsn.specs.Limits.{most_areas}
use Rattle.clfs_model.specs.declared.journal.Entry.{Entry}
use Rattle.clfs_model.specs.declared.state.State.{State}
use Rattle.clfs_model.specs.Journals.{IsLegal, mine}
use Rattle.clfs_model.specs.State.{area_of}
use Rattle.clfs_laws.specs.Rows.{AreaRow, row_in, row_after, row_through}
use Rattle.clfs_turn.specs.Seats.{HasSeen, IsSameSeat}
use Rattle.clfs_lines.specs.Answering.{EndsAnswering}
use Rattle.clfs_lines.specs.Through.{AnswersThrough, AnswersInPart}
use Rattle.clfs_lines.specs.declared.incomplete.IncompleteLine.TheVariants.{Dropped}
use Rattle.clfs_shared.specs.declared.opening.Opening.{Opening}
use Rattle.clfs_shared.specs.Journal.{client_of}
use Rattle.clfs_shared.specs.Sessions.{SessionState, own_entries}
use Rattle.clfs_share.specs.declared.visitors.Visitors as Visitors
use Rattle.clfs_share.specs.declared.visitors.ComingEnd.{ComingEnd}
use Rattle.clfs_share.specs.declared.visitors.ComingEnd.TheVariants.{Over, Failed, NoThread}
use Rattle.clfs_share.specs.declared.visits.VisitedClient.{VisitedClient}
use Rattle.clfs_share.specs.Answered.{AnswersLine}
use Rattle.clfs_share.specs.Heard.{AreHeard, Serves, WasHeard}
use Rattle.clfs_share.specs.Left.{deletions, own_row, EndsArea}
use Rattle.clfs_share.specs.Made.{Made, all_made, made_of, calls_made, AreReplies}
use Rattle.clfs_share.specs.Served.{IsServed, client_limits}
use Rattle.clfs_share.specs.Taken.{IsAnsweredBy, IsAnsweredByInPart}
use Rattle.clfs_share.specs.Visits.{greeting, EndsComing, HasCome, HaveCome, IsGreeted, IsUngreeted, IsVisit}
use Rattle.clfs_share.specs.Visited.{AreVisited, AreVisits, EndsVisits, HasNoArea, IsTurnedAway, IsVisitOf, IsVisitTaken, WasVisited}
use Rattle.clfs_share.proofs.Answering.{ends_grew}
use Rattle.clfs_share.proofs.Making.{same_seat, same_seats}
use Rattle.clfs_share.proofs.Replying.{answered_by, ends_as, in_part_by}
use Rattle.clfs_share.proofs.Taking.{RowsLaw, no_area, none_own}

-- ---- the session stays the same

pub visit_same : (s t : SessionState) (status : ℕ) (left left' written written' : Option (List ℕ)) (source source' sink sink' : ℕ)
    → IsVisit s t status left left' written written' source source' sink sink' → IsSameSeat s t
visit_same s t status left left' written written' source source' sink sink' (inl is) = same_seats s is.served.between t is.served.same is.served.leaves.same
visit_same s t status left left' written written' source source' sink sink' (inr is) = let F : SessionState → Type 0 = λ x. IsSameSeat s x in subst F (sym is.same) (same_seat s)

module _ {P S K : Type 0} (visiting : Visitors.Ghosts P S K) (left : S → Option (List ℕ)) (source_faults : S → ℕ) (written : K → Option (List ℕ)) (sink_faults : K → ℕ) where
  come_same : (count : ℕ) (visitors after : P) (s t : SessionState) → HaveCome visiting left source_faults written sink_faults count visitors after s t → IsSameSeat s t
  come_same zero visitors after s t is = let F : SessionState → Type 0 = λ x. IsSameSeat s x in subst F (sym is.1) (same_seat s)
  come_same (suc count) visitors after s t is =
      let u = is.1.0 in
      let last = is.1.1.1 in
      same_seats s u t (come_same count visitors is.0 s u is.1.1.0)
      (visit_same u t last.status (left last.source) (left last.source_after) (written last.sink) (written last.sink_after)
      (source_faults last.source) (source_faults last.source_after) (sink_faults last.sink) (sink_faults last.sink_after) last.visit)

  -- one program more
  pub come_more : (count : ℕ) (visitors between after : P) (s u t : SessionState) → HaveCome visiting left source_faults written sink_faults count visitors between s u
      → HasCome visiting left source_faults written sink_faults between after u t
      → HaveCome visiting left source_faults written sink_faults (count + 1) visitors after s t
  come_more count visitors between after s u t have one =
      let e : count + 1 ≡ suc count = omega arith in
      let F : ℕ → Type 0 = λ n. HaveCome visiting left source_faults written sink_faults n visitors after s t in
      subst F (sym e) (between, (u, (have, one)))

-- ---- a client's areas, by its calls and their replies alone

made_first : {a b : Made} {xs ys : List Made} → a ∷ xs ≡ b ∷ ys → a ≡ b
made_first is = cc is

made_rest : {a b : Made} {xs ys : List Made} → a ∷ xs ≡ b ∷ ys → xs ≡ ys
made_rest is = cc is

row_by_made : (number : ℕ) (row : Option AreaRow) (entries others : List Entry) → all_made entries ≡ all_made others
    → row_through number row entries ≡ row_through number row others
row_by_made number row [] [] is = refl
row_by_made number row [] (other ∷ others) is = absurd (cc is)
row_by_made number row (entry ∷ entries) [] is = absurd (cc is)
row_by_made number row (entry ∷ entries) (other ∷ others) is =
    ap (λ (m : Made). row_through number (row_after number row m.call m.reply) entries) (made_first is)
    ∙ row_by_made number (row_after number row other.call other.reply) entries others (made_rest is)

module _ (rows : RowsLaw) (o : Opening) where
  -- what isn't there by the session's own entries isn't there in any state to which entries lead that have these calls of the client
  none_there : (t : SessionState) → t.opening ≡ o → ((number : ℕ) → 1 ≤ number → number ≤ most_areas → own_row number t ≡ None)
      → HasNoArea o.tells_contents o.state t.client (all_made (own_entries t))
  none_there t opening none entries at legal are number least most = no_area (area_of at t.client number)
      (rows o.tells_contents o.state at entries t.client number legal
      ∙ row_by_made number (row_in o.state t.client number) (mine entries t.client) (own_entries t) are
      ∙ ap (λ (x : Opening). row_through number (row_in x.state t.client number) (own_entries t)) (sym opening)
      ∙ none number least most)

  -- ---- one visit

  module _ (s t : SessionState) (opening : s.opening ≡ o) (status : ℕ) (left left' written written' : Option (List ℕ)) (source source' sink sink' : ℕ) where
    greeted_with : (is : IsGreeted s t status left left' written written' source source' sink sink') (calls : List Made)
        → all_made (own_entries is.served.between) ≡ all_made (own_entries s) ++ calls
        → IsVisitTaken o.tells_contents o.state s.client status (all_made (own_entries s)) (all_made (own_entries t)) left left' written written' source source' sink sink'
    greeted_with is calls grew =
        let served = is.served in
        let between = served.between in
        let same = same_seats s between t served.same served.leaves.same in
        let F : List Made → Type 0 = λ z. EndsAnswering client_limits Dropped (IsAnsweredBy (length z) s.client calls) (IsAnsweredByInPart (length z) s.client calls)
        status left left' is.between written' source source' is.faults sink' in
        let G : ℕ → Type 0 = λ c. AreReplies (deletions c most_areas) served.leaves.answers in
        let H : ℕ → Type 0 = λ n. All (EndsArea n) served.leaves.answers in
        let N : ℕ → Type 0 = λ c. HasNoArea o.tells_contents o.state c (all_made (own_entries t)) in record {
          between = is.between;
          faults = is.faults;
          greeted = is.greeted;
          later = is.later;
          calls = calls;
          ends = subst F grew (ends_as client_limits Dropped (AnswersThrough AnswersLine s between) (IsAnsweredBy (length (all_made (own_entries between))) s.client calls)
              (AnswersInPart AnswersLine s between) (IsAnsweredByInPart (length (all_made (own_entries between))) s.client calls) status left left' is.between written'
              source source' is.faults sink' (answered_by s between calls grew) (in_part_by s between calls grew) served.ends);
          answers = served.leaves.answers;
          deleted = subst G served.same.client served.leaves.answered;
          entries = served.leaves.entries
              ∙ ap (λ (c : ℕ). all_made (own_entries between) ++ calls_made (deletions c most_areas) served.leaves.answers) served.same.client
              ∙ ap (λ (z : List Made). z ++ calls_made (deletions s.client most_areas) served.leaves.answers) grew;
          ends_areas = subst H (sym (length-map (own_entries t) made_of)) served.leaves.ends;
          gone = λ all. subst N same.client (none_there t (same.opening ∙ opening) (served.leaves.gone all));
        }

    greeted_taken : IsGreeted s t status left left' written written' source source' sink sink'
        → IsVisitTaken o.tells_contents o.state s.client status (all_made (own_entries s)) (all_made (own_entries t)) left left' written written' source source' sink sink'
    greeted_taken is =
        let more = ends_grew s is.served.between client_limits status left left' is.between written' source source' is.faults sink' is.served.ends in
        greeted_with is more.0 more.1

    ungreeted_taken : IsUngreeted s t status left left' written written' source source' sink sink'
        → IsTurnedAway s.client status (all_made (own_entries s)) (all_made (own_entries t)) left left' written written' source source' sink sink'
    ungreeted_taken is = record {
      status_is = is.status_is;
      none = ap (λ (x : SessionState). all_made (own_entries x)) is.same;
      front = is.front;
      rises = is.rises;
      unread = is.unread;
      source_count = is.source_count;
    }

    visit_taken : IsVisit s t status left left' written written' source source' sink sink'
        → IsVisitOf o.tells_contents o.state s.client status (all_made (own_entries s)) (all_made (own_entries t)) left left' written written' source source' sink sink'
    visit_taken (inl is) = inl (greeted_taken is)
    visit_taken (inr is) = inr (ungreeted_taken is)

  -- ---- all visits of a client

  module _ {P S K : Type 0} (visiting : Visitors.Ghosts P S K) (left : S → Option (List ℕ)) (source_faults : S → ℕ) (written : K → Option (List ℕ)) (sink_faults : K → ℕ) where
    abbrev Visits : ℕ → ℕ → P → P → List Made → Type 0
    Visits client = AreVisits visiting left source_faults written sink_faults o.tells_contents o.state client

    one_visit : (client : ℕ) (visitors after : P) (s t : SessionState) → s.opening ≡ o → s.client ≡ client
        → HasCome visiting left source_faults written sink_faults visitors after s t
        → WasVisited visiting left source_faults written sink_faults o.tells_contents o.state client visitors after (all_made (own_entries s)) (all_made (own_entries t))
    one_visit client visitors after s t opening is come = record {
      source = come.source;
      sink = come.sink;
      between = come.between;
      comes = come.comes;
      status = come.status;
      source_after = come.source_after;
      sink_after = come.sink_after;
      visit = let F : ℕ → Type 0 = λ c. IsVisitOf o.tells_contents o.state c come.status (all_made (own_entries s)) (all_made (own_entries t)) (left come.source) (left come.source_after)
          (written come.sink) (written come.sink_after) (source_faults come.source) (source_faults come.source_after) (sink_faults come.sink) (sink_faults come.sink_after) in
          subst F is (visit_taken s t opening come.status (left come.source) (left come.source_after) (written come.sink) (written come.sink_after)
          (source_faults come.source) (source_faults come.source_after) (sink_faults come.sink) (sink_faults come.sink_after) come.visit);
      leaves = come.leaves;
    }

    all_visits : (count : ℕ) (visitors after : P) (s t : SessionState) → s.opening ≡ o → own_entries s ≡ []
        → HaveCome visiting left source_faults written sink_faults count visitors after s t → Visits s.client count visitors after (all_made (own_entries t))
    all_visits zero visitors after s t opening none is =
        (is.0, ap (λ (x : SessionState). all_made (own_entries x)) is.1 ∙ ap (λ (z : List Entry). all_made z) none)
    all_visits (suc count) visitors after s t opening none is =
        let u = is.1.0 in
        let same = come_same visiting left source_faults written sink_faults count visitors is.0 s u is.1.1.0 in (
          is.0,
          (
            all_made (own_entries u),
            (
              all_visits count visitors is.0 s u opening none is.1.1.0,
              one_visit s.client is.0 after u t (same.opening ∙ opening) same.client is.1.1.1,
            ),
          ),
        )

    ends_visits : (end : ComingEnd) (visitors after : P) (s t : SessionState) → s.opening ≡ o → own_entries s ≡ []
        → EndsComing visiting left source_faults written sink_faults end visitors after s t
        → EndsVisits visiting left source_faults written sink_faults o.tells_contents o.state s.client end visitors after (all_made (own_entries t))
    ends_visits (Over count) visitors after s t opening none is = (is.0, (all_visits count visitors is.0 s t opening none is.1.0, is.1.1))
    ends_visits (Failed count) visitors after s t opening none is = (is.0, (all_visits count visitors is.0 s t opening none is.1.0, is.1.1))
    ends_visits NoThread visitors after s t opening none is =
        (ap (λ (x : SessionState). all_made (own_entries x)) is.0 ∙ ap (λ (z : List Entry). all_made z) none, is.1)

    -- ---- all clients

    module _ (journal : List Entry) where
      -- a client whose visits ended, before and then
      abbrev EndsStay : Serves (VisitedClient P S K)
      EndsStay old s new t = EndsComing visiting left source_faults written sink_faults new.end old.visitors new.visitors s t

      abbrev visitors_of : VisitedClient P S K → P
      visitors_of client = client.visitors

      one_visited : (number : ℕ) (visitors : P) (ended : VisitedClient P S K) → WasHeard visitors_of EndsStay o journal number visitors ended
          → EndsVisits visiting left source_faults written sink_faults o.tells_contents o.state number ended.end visitors ended.visitors (all_made (mine journal number))
      one_visited number visitors ended heard =
          let s = heard.session in
          let t = heard.left in
          let F : ℕ → Type 0 = λ c. EndsVisits visiting left source_faults written sink_faults o.tells_contents o.state c ended.end visitors ended.visitors (all_made (mine journal c)) in
          let G : P → Type 0 = λ x. EndsVisits visiting left source_faults written sink_faults o.tells_contents o.state s.client ended.end x ended.visitors (all_made (mine journal s.client)) in
          let H : List Entry → Type 0 = λ z. EndsVisits visiting left source_faults written sink_faults o.tells_contents o.state s.client ended.end heard.begun.visitors ended.visitors (all_made z) in
          let seen : own_entries t ≡ mine journal s.client = heard.heard.own ∙ ap (λ (c : ℕ). mine journal c) heard.same.client in
          subst F heard.number (subst G heard.is (subst H seen
          (ends_visits ended.end heard.begun.visitors ended.visitors s t heard.begins (none_own s heard.seen) heard.served)))

      pub all_visited : (number : ℕ) (visitors : List P) (ends : List (VisitedClient P S K)) → AreHeard visitors_of EndsStay o journal number visitors ends
          → AreVisited visiting left source_faults written sink_faults o.tells_contents o.state journal number visitors ends
      all_visited number [] [] heard = tt
      all_visited number [] (ended ∷ others) heard = absurd heard
      all_visited number (visitors ∷ more) [] heard = absurd heard
      all_visited number (visitors ∷ more) (ended ∷ others) heard = (one_visited number visitors ended heard.0, all_visited (number + 1) more others heard.1)
