-- Sorted heads of restart areas, and the head before a place.
use Rattle.std.specs.Prelude.{◌≡◌, ℕ, zero, suc, List, All, slice_get, Option, Some, None, nat_lt, if◌then◌else◌}
use Rattle.clfs_lsn.specs.declared.entry.Head.{Head}
use Rattle.clfs_lsn.specs.declared.entry.Kind.TheVariants.{Restart}
use Rattle.clfs_lsn.specs.Heads.{lsn_of_head}
use Rattle.clfs_lsn.specs.Rising.{AreRising}

-- Nothing but restart areas is in the row, sorted: each of them is one that a client can ask for.
pub record HasRestarts (heads : List Head) : Type 0 where
  pub rising : AreRising lsn_of_head heads
  pub restarts : All (λ (head : Head). head.kind ≡ Restart) heads

-- the head before a place
abbrev pub head_before : List Head → ℕ → Option Head
head_before heads zero = None
head_before heads (suc place) = slice_get heads place

-- a head, where it isn't below the base
abbrev pub live_or_none : ℕ → Option Head → Option Head
live_or_none base None = None
live_or_none base (Some head) = if nat_lt head.lsn base then None else Some head
