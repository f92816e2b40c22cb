-- How a client ended, beside how it began.
use Rattle.std.specs.Prelude.{◌≡◌, ℕ, Bool, true, false, List, map, Option, None, Some}
use Rattle.std.specs.List.{list_any}
use Rattle.clfs_shared.specs.Sessions.{SessionState}
use Rattle.clfs_share.specs.declared.pairs.ClientEnd.{ClientEnd}
use Rattle.clfs_share.specs.declared.pairs.EndedClient.{EndedClient}
use Rattle.clfs_share.specs.declared.pairs.ClientEnd.TheVariants.{Served, NotOpened, NoThread}
use Rattle.clfs_share.specs.declared.openers.Openers as Openers
use Rattle.clfs_share.specs.Served.{IsServed}

-- A client's source and sink were opened, it was served by them, and they were closed with its status.
pub record WasServed {P S K : Type 0} (opening : Openers.Ghosts P S K) (left : S → Option (List ℕ)) (source_faults : S → ℕ) (written : K → Option (List ℕ))
    (sink_faults : K → ℕ) (openers openers_after : P) (status : ℕ) (ports : Option (S × K)) (s t : SessionState) : Type 0 where
  pub source : S
  pub sink : K
  -- the openers while the client was served
  pub between : P
  pub opened : opening.opens openers source sink between
  pub closed : opening.closes between status openers_after
  pub source_after : S
  pub sink_after : K
  pub are : ports ≡ Some (source_after, sink_after)
  pub served : IsServed s t status (left source) (left source_after) (written sink) (written sink_after)
      (source_faults source) (source_faults source_after) (sink_faults sink) (sink_faults sink_after)

-- how clients ended
abbrev pub ends_of : {P S K : Type 0} → List (EndedClient P S K) → List ClientEnd
ends_of {P} {S} {K} clients = map (λ (client : EndedClient P S K). client.end) clients

-- whether a client that ended so was served
abbrev pub is_served : ClientEnd → Bool
is_served (Served status) = true
is_served NotOpened = false
is_served NoThread = false

-- whether one of clients that ended so was served
abbrev pub is_any_served : List ClientEnd → Bool
is_any_served ends = list_any is_served ends

-- Nothing was opened for a client: its openers gave nothing.
pub record WasNotOpened {P S K : Type 0} (opening : Openers.Ghosts P S K) (openers openers_after : P) (ports : Option (S × K)) : Type 0 where
  pub none : ports ≡ None
  pub shut : opening.stays_shut openers openers_after

-- Nothing was opened for a client: its openers were refused, as no thread was made for it.
pub record WasRefused {P S K : Type 0} (opening : Openers.Ghosts P S K) (openers openers_after : P) (ports : Option (S × K)) : Type 0 where
  pub none : ports ≡ None
  pub refused : opening.refuses openers openers_after

module _ {P S K : Type 0} (opening : Openers.Ghosts P S K) (left : S → Option (List ℕ)) (source_faults : S → ℕ) (written : K → Option (List ℕ)) (sink_faults : K → ℕ) where
  -- a client ended so: one that wasn't served has made no call, and had no source and no sink
  abbrev pub EndsAs : ClientEnd → P → P → Option (S × K) → SessionState → SessionState → Type 0
  EndsAs (Served status) openers after ports s t = WasServed opening left source_faults written sink_faults openers after status ports s t
  EndsAs NotOpened openers after ports s t = (t ≡ s) × WasNotOpened opening openers after ports
  EndsAs NoThread openers after ports s t = (t ≡ s) × WasRefused opening openers after ports
