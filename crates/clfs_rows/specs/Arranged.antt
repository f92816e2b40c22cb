-- Logs of which one part at a time is changed.
use Rattle.std.specs.Prelude.{ℕ, ◌+◌, ◌*◌, List, [], ◌∷◌, codes, map, replicate}
use Rattle.std.specs.List.{range_with_len}
use Rattle.clfs_lsn.specs.Lsn.{null_lsn}
use Rattle.clfs_lsn.specs.declared.entry.LogEntry.{LogEntry}
use Rattle.clfs_lsn.specs.declared.entry.Kind.TheVariants.{Restart}
use Rattle.clfs_lsn.specs.declared.place.Place.{Place}
use Rattle.clfs_model.specs.declared.state.State.{State}
use Rattle.clfs_model.specs.declared.state.Area.{Area}
use Rattle.clfs_lsn.specs.declared.cursor.Cursor.{Cursor}
use Rattle.clfs_lsn.specs.declared.cursor.CursorKind.{CursorKind}
use Rattle.clfs_model.specs.Run.{state_after}
use Rattle.clfs_model.specs.Script.{script_requests}
use Rattle.clfs_rows.specs.Worked.{worked, opened_log}
use Rattle.clfs_rows.specs.Filled.{empty_record, many_records}
use Rattle.clfs_rows.specs.Compared.{two_containers}

-- After the records of the log of two containers a restart area is at 2:200:0, with the base that holds already, and a record in the open
-- block at 2:400:0. Cursors of client 1 stand at 2:0:2 and at the restart area, and client 2 has an area too.
abbrev pub arranged_log : State
arranged_log = state_after two_containers (script_requests
    (codes "1 restart 1 ee 2:0:1\n1 read 1 2:0:2 forward\n1 readrestart 1\n2 area 1 960 4\n1 append 1 ff 0:0:0 0:0:0\n"))

-- a record with this new base
abbrev pub with_new_base : ℕ → LogEntry → LogEntry
with_new_base base entry = record entry { new_base = base }

-- a record with so many bytes of data
abbrev pub with_bytes : ℕ → LogEntry → LogEntry
with_bytes count entry = record entry { bytes = replicate count 0 }

-- the log with its place here
abbrev pub with_place : Place → State → State
with_place place s = record s { place = place }

-- a place in an open block of the second container
abbrev pub open_at : ℕ → ℕ → ℕ → Place
open_at offset used records = record { container = 2; offset = offset; used = used; records = records }

-- the log whose block at 1:0:0 has so many empty records
abbrev pub block_of : ℕ → State
block_of count = record many_records {
  records = map empty_record (range_with_len 0 count);
  place = record { container = 1; offset = 0; used = 16 + count * 32; records = count };
  areas = [];
}

-- the log with one stream, of this name
abbrev pub stream_named : List ℕ → State
stream_named name = record worked { streams = record { name = name; base = null_lsn } ∷ [] }

-- an area of client 1
abbrev pub an_area : Area
an_area = record { client = 1; number = 1; stream = 1; largest = 960; reads = 2; held = 0; cursors = [] }

-- the log with these areas and no others
abbrev pub with_areas : List Area → State → State
with_areas areas s = record s { areas = areas }

-- the log with an area that has these cursors
abbrev pub with_cursors : List Cursor → State → State
with_cursors cursors s = with_areas (record an_area { cursors = cursors } ∷ []) s

-- a cursor of this number and kind that gave the record at an LSN last
abbrev pub cursor_at : ℕ → CursorKind → ℕ → Cursor
cursor_at number kind lsn = record { number = number; kind = kind; last = lsn }

-- the log with one stream and these records, and with its place here
abbrev pub with_records : List LogEntry → Place → State
with_records records place = record opened_log { records = records; place = place; areas = [] }

-- an empty restart area in the first block
abbrev pub empty_restart : ℕ → LogEntry
empty_restart sequence = record (empty_record sequence) { kind = Restart }

-- a log of one empty record in the open block
abbrev pub open_log : State
open_log = with_records (empty_record 0 ∷ []) (record { container = 1; offset = 0; used = 48; records = 1 })
