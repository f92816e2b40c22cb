-- What a shared log took of a client, as its journal has it, and what the client's source and sink saw of that.
use Rattle.std.specs.Prelude.{◌≡◌, ◌⊎◌, ℕ, ◌+◌, ◌<◌, ◌≤◌, Bool, true, false, List, [], ◌∷◌, ◌++◌, length, All, None, Option, Some}
use Rattle.std.specs.List.{concat, list_all}
use Rattle.clfs_lsn.specs.Limits.{most_areas}
use Rattle.clfs_model.specs.declared.journal.Entry.{Entry}
use Rattle.clfs_model.specs.declared.reply.Reply.{Reply}
use Rattle.clfs_model.specs.declared.state.State.{State}
use Rattle.clfs_model.specs.Journals.{mine}
use Rattle.clfs_model.specs.State.{area_of}
use Rattle.clfs_lines.specs.Answering.{EndsAnswering}
use Rattle.clfs_lines.specs.declared.incomplete.IncompleteLine.TheVariants.{Dropped}
use Rattle.clfs_share.specs.declared.pairs.ClientEnd.{ClientEnd}
use Rattle.clfs_share.specs.declared.pairs.ClientEnd.TheVariants.{Served, NotOpened, NoThread}
use Rattle.clfs_share.specs.declared.pairs.EndedClient.{EndedClient}
use Rattle.clfs_share.specs.declared.openers.Openers as Openers
use Rattle.clfs_share.specs.Ended.{WasNotOpened, WasRefused}
use Rattle.clfs_share.specs.Left.{deletions, is_gone, EndsArea}
use Rattle.clfs_share.specs.Lines.{own_requests}
use Rattle.clfs_share.specs.Made.{Made, all_made, calls_made, AreReplies, AreWanted, reply_lines}
use Rattle.clfs_share.specs.Served.{client_limits}

-- Lines of a client that has made so many calls by then were answered: the calls that they and the replies give are these, and this text is the replies.
-- Memory ran out only for a call that takes some, or where the client has made as many calls as it may.
pub record IsAnsweredBy (own client : ℕ) (calls : List Made) (lines : List (List ℕ)) (text : List ℕ) : Type 0 where
  pub answers : List Reply
  pub answered : AreReplies (own_requests client lines) answers
  pub made : calls_made (own_requests client lines) answers ≡ calls
  pub wanted : AreWanted own (own_requests client lines) answers
  pub is : text ≡ concat (reply_lines (own_requests client lines) answers)

-- The same, and this text is all replies, or all but the last and, if it is torn, a front of that one.
pub record IsAnsweredByInPart (own client : ℕ) (calls : List Made) (torn : Bool) (lines : List (List ℕ)) (text : List ℕ) : Type 0 where
  pub output : List ℕ
  pub answered : IsAnsweredBy own client calls lines output
  pub whole : List (List ℕ)
  pub others : List (List ℕ)
  pub all : whole ++ others ≡ reply_lines (own_requests client lines) answered.answers
  pub at_most_one : length others ≤ 1
  pub front : List ℕ
  pub untorn : torn ≡ false → front ≡ []
  pub rest : List ℕ
  pub is : text ≡ concat whole ++ front
  pub goes_on : text ++ rest ≡ output

-- the same of a client that has made no other calls than these
abbrev pub IsAnswered : ℕ → List Made → List (List ℕ) → List ℕ → Type 0
IsAnswered client calls = IsAnsweredBy (length calls) client calls

abbrev pub IsAnsweredInPart : ℕ → List Made → Bool → List (List ℕ) → List ℕ → Type 0
IsAnsweredInPart client calls = IsAnsweredByInPart (length calls) client calls

-- The log took a client's calls: in the journal, whose last state this is, they are those of its lines, in order, each with its reply, and then the
-- deletions of its areas. The status tells how its lines ended.
pub record IsTaken (journal : List Entry) (last : State) (client status : ℕ) (left left_after written written_after : Option (List ℕ)) (source source_after sink sink_after : ℕ) : Type 0 where
  pub calls : List Made
  pub ends : EndsAnswering client_limits Dropped (IsAnswered client calls) (IsAnsweredInPart client calls) status left left_after
      written written_after source source_after sink sink_after
  pub answers : List Reply
  pub deleted : AreReplies (deletions client most_areas) answers
  pub entries : all_made (mine journal client) ≡ calls ++ calls_made (deletions client most_areas) answers
  -- each deletion leaves no such area, but where the log is broken or the client has made as many calls as it may
  pub leaves : All (EndsArea (length (mine journal client))) answers
  pub gone : list_all is_gone answers ≡ true → (number : ℕ) → 1 ≤ number → number ≤ most_areas → area_of last client number ≡ None

-- A client's source and sink were opened, the log took its calls, and they were closed with its status.
pub record WasTaken {P S K : Type 0} (opening : Openers.Ghosts P S K) (left : S → Option (List ℕ)) (source_faults : S → ℕ) (written : K → Option (List ℕ))
    (sink_faults : K → ℕ) (journal : List Entry) (last : State) (client status : ℕ) (openers openers_after : P) (ports : Option (S × K)) : Type 0 where
  pub source : S
  pub sink : K
  -- the openers while the client was served
  pub between : P
  pub opened : opening.opens openers source sink between
  pub closed : opening.closes between status openers_after
  pub source_after : S
  pub sink_after : K
  pub are : ports ≡ Some (source_after, sink_after)
  pub taken : IsTaken journal last client status (left source) (left source_after) (written sink) (written sink_after)
      (source_faults source) (source_faults source_after) (sink_faults sink) (sink_faults sink_after)

module _ {P S K : Type 0} (opening : Openers.Ghosts P S K) (left : S → Option (List ℕ)) (source_faults : S → ℕ) (written : K → Option (List ℕ)) (sink_faults : K → ℕ)
    (journal : List Entry) (last : State) where
  -- a client that ended so: the log took no call of one that wasn't served, which had no source and no sink
  abbrev pub IsTakenAs : ClientEnd → ℕ → P → P → Option (S × K) → Type 0
  IsTakenAs (Served status) client openers after ports = WasTaken opening left source_faults written sink_faults journal last client status openers after ports
  IsTakenAs NotOpened client openers after ports = (mine journal client ≡ []) × WasNotOpened opening openers after ports
  IsTakenAs NoThread client openers after ports = (mine journal client ≡ []) × WasRefused opening openers after ports

  -- clients with their numbers, of which the first has this one
  abbrev pub AreTaken : ℕ → List P → List (EndedClient P S K) → Type 0
  AreTaken client [] [] = Unit {0}
  AreTaken client [] (ended ∷ others) = ⊥
  AreTaken client (openers ∷ more) [] = ⊥
  AreTaken client (openers ∷ more) (ended ∷ others) = IsTakenAs ended.end client openers ended.openers ended.ports × AreTaken (client + 1) more others

-- all calls are those of so many clients, numbered from 1
abbrev pub IsOfClients : ℕ → List Entry → Type 0
IsOfClients count journal = (client : ℕ) → (client ≡ 0) ⊎ (count < client) → mine journal client ≡ []
