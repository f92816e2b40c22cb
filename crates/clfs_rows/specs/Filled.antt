-- Logs and places that rows begin with, some of which only a long script comes to.
use Rattle.std.specs.Prelude.{ℕ, ◌+◌, ◌*◌, true, [], ◌∷◌, ◌++◌, map, codes}
use Rattle.std.specs.List.{range_with_len}
use Rattle.std.specs.Fmt.{decimal}
use Rattle.clfs_lsn.specs.Lsn.{null_lsn, lsn_number}
use Rattle.clfs_lsn.specs.declared.entry.LogEntry.{LogEntry}
use Rattle.clfs_lsn.specs.declared.entry.Kind.TheVariants.{Plain}
use Rattle.clfs_lsn.specs.declared.place.Place.{Place}
use Rattle.clfs_model.specs.declared.state.State.{State}
use Rattle.clfs_model.specs.State.{log_of}
use Rattle.clfs_model.specs.Run.{state_after}
use Rattle.clfs_model.specs.Script.{script_requests}
use Rattle.clfs_rows.specs.Worked.{worked, opened_log}

-- a log with so many streams, named s1, s2, s3 and so on
abbrev pub streams_of : ℕ → State
streams_of count = record worked {
  streams = map (λ n. record { name = codes "s" ++ decimal n; base = null_lsn }) (range_with_len 1 count);
}

-- the same log as a dedicated one
abbrev pub dedicated : State → State
dedicated log = record log { dedicated = true }

-- an empty record of the first stream in the first block
abbrev pub empty_record : ℕ → LogEntry
empty_record sequence = record {
  lsn = lsn_number 1 0 sequence;
  stream = 1;
  kind = Plain;
  previous = null_lsn;
  undo_next = null_lsn;
  new_base = null_lsn;
  bytes = [];
}

-- a log with blocks of forty sectors at most, whose open block has 510 empty records; and an area of client 1
abbrev pub many_records : State
many_records = record (log_of 40 80 2 4) {
  streams = record { name = codes "a"; base = null_lsn } ∷ [];
  records = map empty_record (range_with_len 0 510);
  place = record { container = 1; offset = 0; used = 16 + 510 * 32; records = 510 };
  areas = record { client = 1; number = 1; stream = 1; largest = 960; reads = 4; held = 0; cursors = [] } ∷ [];
}

-- four records of a stream: each has the one before as its previous link, and the last one the first as its undo-next link
abbrev pub linked_records : State
linked_records = state_after opened_log (script_requests (codes "1 append 1 a0 0:0:0 0:0:0\n1 append 1 a1 1:0:0 1:0:0\n"
    ++ codes "1 append 1 a2 1:0:1 1:0:1\n1 append 1 a3 1:0:2 1:0:0\n"))

-- the LSN of a record, as a number
abbrev pub number_of : LogEntry → ℕ
number_of entry = entry.lsn

-- the second container's block of two sectors from its fifth sector on, with one record
abbrev pub nearly_full : Place
nearly_full = record { container = 2; offset = 2048; used = 1008; records = 1 }

-- the start of the container with the highest id
abbrev pub last_of_all : Place
last_of_all = record { container = 4294967295; offset = 0; used = 0; records = 0 }
