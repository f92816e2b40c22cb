-- Logs that a crash hits, what is asked of them at that moment, and what may be left.
use Rattle.std.specs.Prelude.{ℕ, List, [], ◌∷◌, ◌++◌, codes, map, take}
use Rattle.clfs_lsn.specs.declared.entry.LogEntry.{LogEntry}
use Rattle.clfs_lsn.specs.declared.place.Place.{Place}
use Rattle.clfs_model.specs.declared.state.State.{State}
use Rattle.clfs_lsn.specs.declared.stream.Stream.{Stream}
use Rattle.clfs_model.specs.Flush.{cut}
use Rattle.clfs_model.specs.Run.{fine_outcome, state_after}
use Rattle.clfs_model.specs.Script.{line_request, script_requests}
use Rattle.clfs_model.specs.Survivors.{Survives}
use Rattle.clfs_rows.specs.Worked.{opened_log, flushed_log, append_of_zeros}

-- a place at which no block is open
abbrev pub closed_at : ℕ → ℕ → Place
closed_at container offset = record { container = container; offset = offset; used = 0; records = 0 }

-- the log with so many of its first records, and with its place at this offset of this container
abbrev pub left_of : State → ℕ → ℕ → ℕ → State
left_of s count container offset = record (cut s) { records = take count s.records; place = closed_at container offset }

-- the log with the streams and bases of another one
abbrev pub with_streams_of : State → State → State
with_streams_of s x = record x { streams = s.streams }

-- the log whose streams all have this base
abbrev pub with_base : ℕ → State → State
with_base base s = record s { streams = map (λ (stream : Stream). record stream { base = base }) s.streams }

-- the same record with other data
abbrev pub with_other_data : LogEntry → LogEntry
with_other_data entry = record entry { bytes = 90 ∷ [] }

-- the state that a line leaves where nothing happens and memory suffices
abbrev pub state_behind : State → List ℕ → State
state_behind s line = (fine_outcome s (line_request line)).state

-- A crash while this line is under way may leave this state.
abbrev pub SurvivesLine : State → List ℕ → State → Type 0
SurvivesLine s line x = Survives (line_request line) s x

-- Two blocks are flushed, of a record each, at 1:0:0 and 1:200:0. After them a block of two records waits, at 1:400:0 and 1:400:1.
abbrev pub waiting_log : State
waiting_log = state_after opened_log (script_requests (codes "1 append 1 a0 0:0:0 0:0:0 flush\n1 append 1 a1 0:0:0 0:0:0 flush\n"
    ++ codes "1 append 1 a2 0:0:0 0:0:0\n1 append 1 a3 0:0:0 0:0:0 seal\n"))

-- an append that flushes, with a record that takes a block of two sectors
abbrev pub long_append : List ℕ
long_append = append_of_zeros 960 (codes " flush")

-- the log after it: the record is at 1:600:0, and flushed is 1:a00:0
abbrev pub long_log : State
long_log = state_behind waiting_log long_append

-- A block of one sector and two of two sectors are flushed, and the next one of two sectors, at 1:a00:0, is open. One sector is left
-- after it.
abbrev pub turning_log : State
turning_log = state_after opened_log (script_requests (codes "1 append 1 aa 0:0:0 0:0:0 seal\n" ++ (append_of_zeros 960 (codes "\n")
    ++ (append_of_zeros 960 (codes " flush\n") ++ append_of_zeros 960 (codes "\n")))))

-- the log once the record of two sectors has turned to the next container: it is at 2:0:0, and flushed is 2:400:0
abbrev pub turned_log : State
turned_log = state_behind turning_log long_append

-- the log as no calls leave it: it goes on in its third container, and has no record in the second
abbrev pub skipping_log : State
skipping_log = record turning_log { place = closed_at 3 0 }

-- a log that grows by itself
abbrev pub growing_log : State
growing_log = state_after opened_log (script_requests (codes "1 policy auto\n"))

-- an append that flushes, and that needs a third container for what it holds
abbrev pub growing_append : List ℕ
growing_append = codes "1 append 1 aa 0:0:0 0:0:0 flush hold 960 960 960 960 960 960 960"

-- One record is flushed, at 1:0:0, and another one waits, at 1:200:0.
abbrev pub rebasing_log : State
rebasing_log = state_after flushed_log (script_requests (codes "1 append 1 a1 0:0:0 0:0:0 seal\n"))

-- the same log, all flushed, with a second stream and with its first one's base at 1:0:0
abbrev pub two_streams_log : State
two_streams_log = state_after rebasing_log (script_requests (codes "1 advance 1 1:0:0\n1 open b\n"))

-- a restart area that moves the base to the record that waits
abbrev pub restart : List ℕ
restart = codes "1 restart 1 bb 1:200:0"

-- the log after it: the restart area is at 1:400:0, and flushed is 1:600:0
abbrev pub restarted_log : State
restarted_log = state_behind rebasing_log restart

-- the same move of the base without a restart area
abbrev pub advance : List ℕ
advance = codes "1 advance 1 1:200:0"

-- the log after it: flushed is 1:400:0
abbrev pub advanced_log : State
advanced_log = state_behind rebasing_log advance
