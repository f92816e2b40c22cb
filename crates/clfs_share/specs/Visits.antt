-- A client's visits: programs come one after the other, and each is served by the client's session.
use Rattle.std.specs.Prelude.{◌≡◌, ◌⊎◌, ℕ, zero, suc, ◌≤◌, ◌++◌, List, codes, Option, Some}
use Rattle.std.specs.Fmt.{decimal}
use Rattle.std.specs.Io.KnownBytes.{Appends}
use Rattle.clfs_ports.specs.Cause.{Rises}
use Rattle.clfs_lines.specs.Ends.{AppendsFront}
use Rattle.clfs_shared.specs.Sessions.{SessionState}
use Rattle.clfs_share.specs.declared.visitors.Visitors as Visitors
use Rattle.clfs_share.specs.declared.visitors.ComingEnd.{ComingEnd}
use Rattle.clfs_share.specs.declared.visitors.ComingEnd.TheVariants.{Over, Failed, NoThread}
use Rattle.clfs_share.specs.Served.{IsServed}

-- the line that greets a program: the client's number and a word
abbrev pub greeting : ℕ → List ℕ
greeting client = decimal client ++ codes " client\n"

-- A program was greeted, and then served.
pub record IsGreeted (s t : SessionState) (status : ℕ) (left left_after written written_after : Option (List ℕ)) (source source_after sink sink_after : ℕ) : Type 0 where
  -- what the sink has after the greeting, and its count of faults
  pub between : Option (List ℕ)
  pub faults : ℕ
  pub greeted : Appends written between (greeting s.client)
  pub later : sink ≤ faults
  pub served : IsServed s t status left left_after between written_after source source_after faults sink_after

-- The sink failed in the greeting: nothing was read, and no call was made.
pub record IsUngreeted (s t : SessionState) (status : ℕ) (left left_after written written_after : Option (List ℕ)) (source source_after sink sink_after : ℕ) : Type 0 where
  pub status_is : status ≡ 3
  pub same : t ≡ s
  pub front : AppendsFront written written_after (greeting s.client)
  pub rises : Rises sink sink_after
  pub unread : left_after ≡ left
  pub source_count : source_after ≡ source

-- One visit of a program to a client's session.
abbrev pub IsVisit : SessionState → SessionState → ℕ → Option (List ℕ) → Option (List ℕ) → Option (List ℕ) → Option (List ℕ) → ℕ → ℕ → ℕ → ℕ → Type 0
IsVisit s t status left left_after written written_after source source_after sink sink_after =
    IsGreeted s t status left left_after written written_after source source_after sink sink_after
    ⊎ IsUngreeted s t status left left_after written written_after source source_after sink sink_after

module _ {P S K : Type 0} (visiting : Visitors.Ghosts P S K) (left : S → Option (List ℕ)) (source_faults : S → ℕ) (written : K → Option (List ℕ)) (sink_faults : K → ℕ) where
  -- A program came, by a source and a sink of its own, its visit was made, and it left with the status of its lines.
  pub record HasCome (visitors after : P) (s t : SessionState) : Type 0 where
    pub source : S
    pub sink : K
    -- the visitors while this one is served
    pub between : P
    pub comes : visiting.comes visitors source sink between
    pub status : ℕ
    pub source_after : S
    pub sink_after : K
    pub visit : IsVisit s t status (left source) (left source_after) (written sink) (written sink_after)
        (source_faults source) (source_faults source_after) (sink_faults sink) (sink_faults sink_after)
    pub leaves : visiting.leaves between status source_after sink_after after

  -- so many programs came, one after the other
  abbrev pub HaveCome : ℕ → P → P → SessionState → SessionState → Type 0
  HaveCome zero visitors after s t = (after ≡ visitors) × (t ≡ s)
  HaveCome (suc count) visitors after s t =
      (between : P) × ((u : SessionState) × (HaveCome count visitors between s u × HasCome between after u t))

  -- how a client's visits ended
  abbrev pub EndsComing : ComingEnd → P → P → SessionState → SessionState → Type 0
  EndsComing (Over visits) visitors after s t =
      (last : P) × (HaveCome visits visitors last s t × (visiting.over last after ⊎ (18446744073709551615 ≤ visits)))
  EndsComing (Failed visits) visitors after s t = (last : P) × (HaveCome visits visitors last s t × visiting.fails last after)
  EndsComing NoThread visitors after s t = (t ≡ s) × visiting.refuses visitors after
