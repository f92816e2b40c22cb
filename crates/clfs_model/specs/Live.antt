-- Which records are live, and what the log still needs.
use Rattle.std.specs.Prelude.{ℕ, Bool, ◌&&◌, ◌==◌, nat_le, List, ◌++◌, map, filter, find, Option, None}
use Rattle.std.specs.List.{last_or}
use Rattle.std.specs.Option.{option_map_or, option_to_list}
use Rattle.clfs_lsn.specs.Heads.{least_or}
use Rattle.clfs_lsn.specs.Lsn.{null_lsn}
use Rattle.clfs_lsn.specs.Place.{frontier}
use Rattle.clfs_lsn.specs.Space.{active_containers}
use Rattle.clfs_lsn.specs.declared.entry.LogEntry.{LogEntry}
use Rattle.clfs_model.specs.declared.state.State.{State}
use Rattle.clfs_model.specs.State.{base_of}

-- A record is live where it lies at or above its stream's base.
abbrev pub is_live : State → LogEntry → Bool
is_live s entry = nat_le (base_of s entry.stream) entry.lsn

-- the live records of a stream, their LSNs rising
abbrev pub live : State → ℕ → List LogEntry
live s stream = filter (λ (entry : LogEntry). (entry.stream == stream) && is_live s entry) s.records

-- the live record of a stream at an LSN
abbrev pub live_at : State → ℕ → ℕ → Option LogEntry
live_at s stream lsn = find (λ (entry : LogEntry). entry.lsn == lsn) (live s stream)

-- the LSN of a record, or null where there is none
abbrev pub lsn_or_null : Option LogEntry → ℕ
lsn_or_null found = option_map_or (λ (entry : LogEntry). entry.lsn) found null_lsn

-- the last live LSN of a stream, or null
abbrev pub last_live : State → ℕ → ℕ
last_live s stream = lsn_or_null (last_or None (live s stream))

-- the LSNs of the live records of all streams
abbrev pub live_lsns : State → List ℕ
live_lsns s = map (λ (entry : LogEntry). entry.lsn) (filter (is_live s) s.records)

-- The hold: the least of the LSNs of all live records and, with archiving on, the archive tail; else the frontier.
abbrev pub hold : State → ℕ
hold s = least_or (frontier s.place) (option_to_list s.archive ++ live_lsns s)

-- the number of containers in use, from the hold's to the place's
abbrev pub active : State → ℕ
active s = active_containers s.place (hold s)
