-- The first live LSNs of streams against the heads of records, and the hold by them.
use Rattle.std.specs.Prelude.{◌≡◌, ℕ, ◌-◌, ◌<◌, ◌≤◌, List, ◌++◌, length, All, AllPairs, Option, None, slice_get, slice_index_or}
use Rattle.std.specs.List.{filter_map}
use Rattle.std.specs.Option.{option_map, option_to_list}
use Rattle.clfs_lsn.specs.declared.entry.Head.{Head}
use Rattle.clfs_lsn.specs.Heads.{live_heads, least_or}

-- the LSN of a stream's first live record
abbrev pub first_live : (ℕ → ℕ) → List Head → ℕ → Option ℕ
first_live bases heads stream = option_map (λ (head : Head). head.lsn) (slice_get (live_heads (bases stream) stream heads) 0)

-- these are the first live LSNs of the streams from 1 on, for these bases and the heads of all their records, sorted
pub record AreFirsts (firsts : List (Option ℕ)) (bases : ℕ → ℕ) (heads : List Head) : Type 0 where
  pub rising : AllPairs (λ (a b : Head). a.lsn < b.lsn) heads
  pub streams : All (λ (head : Head). (1 ≤ head.stream) × (head.stream ≤ length firsts)) heads
  pub each : (stream : ℕ) → 1 ≤ stream → stream ≤ length firsts → slice_index_or firsts (stream - 1) None ≡ first_live bases heads stream

-- the least of the archive tail and the first live LSNs, or the frontier where there are none
abbrev pub hold_among : ℕ → Option ℕ → List (Option ℕ) → ℕ
hold_among end archive firsts = least_or end (option_to_list archive ++ filter_map (λ first. first) firsts)
