-- What a shared log took of a client's visits, as its journal has them, and what the source and the sink of each saw of that.
use Rattle.std.specs.Prelude.{◌≡◌, ◌⊎◌, ℕ, zero, suc, ◌+◌, ◌≤◌, nat_le, Bool, true, false, List, [], ◌∷◌, ◌++◌, length, map, All, None, Option}
use Rattle.std.specs.List.{list_all, list_any}
use Rattle.std.specs.Io.KnownBytes.{Appends}
use Rattle.clfs_ports.specs.Cause.{Rises}
use Rattle.clfs_lsn.specs.Limits.{most_areas}
use Rattle.clfs_model.specs.declared.journal.Entry.{Entry}
use Rattle.clfs_model.specs.declared.reply.Reply.{Reply}
use Rattle.clfs_model.specs.declared.state.State.{State}
use Rattle.clfs_model.specs.Journals.{IsLegal, mine}
use Rattle.clfs_model.specs.State.{area_of}
use Rattle.clfs_lines.specs.Answering.{EndsAnswering}
use Rattle.clfs_lines.specs.Ends.{AppendsFront}
use Rattle.clfs_lines.specs.declared.incomplete.IncompleteLine.TheVariants.{Dropped}
use Rattle.clfs_share.specs.declared.visitors.Visitors as Visitors
use Rattle.clfs_share.specs.declared.visitors.ComingEnd.{ComingEnd}
use Rattle.clfs_share.specs.declared.visitors.ComingEnd.TheVariants.{Over, Failed, NoThread}
use Rattle.clfs_share.specs.declared.visits.VisitedClient.{VisitedClient}
use Rattle.clfs_share.specs.Left.{deletions, is_gone, EndsArea}
use Rattle.clfs_share.specs.Made.{Made, all_made, calls_made, AreReplies}
use Rattle.clfs_share.specs.Served.{client_limits}
use Rattle.clfs_share.specs.Taken.{IsAnsweredBy, IsAnsweredByInPart}
use Rattle.clfs_share.specs.Visits.{greeting}

-- The client has no area, and so no cursor, when it has made just these calls since the log was shared in its first state, whatever the others did until
-- then.
abbrev pub HasNoArea : Bool → State → ℕ → List Made → Type 0
HasNoArea told first client made =
    (entries : List Entry) (at : State) → IsLegal told entries first at → all_made (mine entries client) ≡ made
    → (number : ℕ) → 1 ≤ number → number ≤ most_areas → area_of at client number ≡ None

-- The log took the calls of one visit. The client had made some before; after it, it has made these and then those of the visit's lines, in order, each
-- with its reply, and then the deletions of its areas. The sink took the greeting, and then the replies to just these lines; the status tells how they ended.
pub record IsVisitTaken (told : Bool) (first : State) (client status : ℕ) (before after : List Made) (left left_after written written_after : Option (List ℕ)) (source source_after sink sink_after : ℕ) : Type 0 where
  pub between : Option (List ℕ)
  pub faults : ℕ
  pub greeted : Appends written between (greeting client)
  pub later : sink ≤ faults
  pub calls : List Made
  pub ends : EndsAnswering client_limits Dropped (IsAnsweredBy (length (before ++ calls)) client calls) (IsAnsweredByInPart (length (before ++ calls)) client calls)
      status left left_after between written_after source source_after faults sink_after
  pub answers : List Reply
  pub deleted : AreReplies (deletions client most_areas) answers
  pub entries : after ≡ (before ++ calls) ++ calls_made (deletions client most_areas) answers
  -- each deletion leaves no such area, but where the log is broken or the client has made as many calls as it may; then the next visit begins without areas
  pub ends_areas : All (EndsArea (length after)) answers
  pub gone : list_all is_gone answers ≡ true → HasNoArea told first client after

-- The sink failed in the greeting of a visit: nothing of it was read, and the log took no call.
pub record IsTurnedAway (client status : ℕ) (before after : List Made) (left left_after written written_after : Option (List ℕ)) (source source_after sink sink_after : ℕ) : Type 0 where
  pub status_is : status ≡ 3
  pub none : after ≡ before
  pub front : AppendsFront written written_after (greeting client)
  pub rises : Rises sink sink_after
  pub unread : left_after ≡ left
  pub source_count : source_after ≡ source

-- one visit, between what the client had made before and after it
abbrev pub IsVisitOf : Bool → State → ℕ → ℕ → List Made → List Made → Option (List ℕ) → Option (List ℕ) → Option (List ℕ) → Option (List ℕ) → ℕ → ℕ → ℕ → ℕ → Type 0
IsVisitOf told first client status before after left left_after written written_after source source_after sink sink_after =
    IsVisitTaken told first client status before after left left_after written written_after source source_after sink sink_after
    ⊎ IsTurnedAway client status before after left left_after written written_after source source_after sink sink_after

-- whether programs could come to a client: some came, or it ended because no more come
abbrev pub could_come : ComingEnd → Bool
could_come (Over visits) = true
could_come (Failed visits) = nat_le 1 visits
could_come NoThread = false

-- whether programs could come to one of clients that ended so
abbrev pub could_any_come : List ComingEnd → Bool
could_any_come ends = list_any could_come ends

-- how the visits of clients ended
abbrev pub comings_of : {P S K : Type 0} → List (VisitedClient P S K) → List ComingEnd
comings_of {P} {S} {K} clients = map (λ (client : VisitedClient P S K). client.end) clients

module _ {P S K : Type 0} (visiting : Visitors.Ghosts P S K) (left : S → Option (List ℕ)) (source_faults : S → ℕ) (written : K → Option (List ℕ)) (sink_faults : K → ℕ)
    (told : Bool) (first : State) (client : ℕ) where
  -- A program came, by a source and a sink of its own, its visit was taken, and it left with the status of its lines.
  pub record WasVisited (visitors after : P) (before made : List Made) : Type 0 where
    pub source : S
    pub sink : K
    -- the visitors while this one is served
    pub between : P
    pub comes : visiting.comes visitors source sink between
    pub status : ℕ
    pub source_after : S
    pub sink_after : K
    pub visit : IsVisitOf told first client status before made (left source) (left source_after) (written sink) (written sink_after)
        (source_faults source) (source_faults source_after) (sink_faults sink) (sink_faults sink_after)
    pub leaves : visiting.leaves between status source_after sink_after after

  -- So many visits, one after the other: the first begins when the client has made no call, and each further one where the one before it ended. After the
  -- last one the client has made these calls.
  abbrev pub AreVisits : ℕ → P → P → List Made → Type 0
  AreVisits zero visitors after made = (after ≡ visitors) × (made ≡ [])
  AreVisits (suc count) visitors after made =
      (between : P) × ((before : List Made) × (AreVisits count visitors between before × WasVisited between after before made))

  -- how a client's visits ended, when it has made these calls
  abbrev pub EndsVisits : ComingEnd → P → P → List Made → Type 0
  EndsVisits (Over visits) visitors after made =
      (last : P) × (AreVisits visits visitors last made × (visiting.over last after ⊎ (18446744073709551615 ≤ visits)))
  EndsVisits (Failed visits) visitors after made = (last : P) × (AreVisits visits visitors last made × visiting.fails last after)
  EndsVisits NoThread visitors after made = (made ≡ []) × visiting.refuses visitors after

module _ {P S K : Type 0} (visiting : Visitors.Ghosts P S K) (left : S → Option (List ℕ)) (source_faults : S → ℕ) (written : K → Option (List ℕ)) (sink_faults : K → ℕ)
    (told : Bool) (first : State) (journal : List Entry) where
  -- Clients with their numbers, of which the first has this one: the calls that the journal has of each are those of its visits.
  abbrev pub AreVisited : ℕ → List P → List (VisitedClient P S K) → Type 0
  AreVisited client [] [] = Unit {0}
  AreVisited client [] (ended ∷ others) = ⊥
  AreVisited client (visitors ∷ more) [] = ⊥
  AreVisited client (visitors ∷ more) (ended ∷ others) =
      EndsVisits visiting left source_faults written sink_faults told first client ended.end visitors ended.visitors (all_made (mine journal client))
      × AreVisited (client + 1) more others
