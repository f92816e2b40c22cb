-- The words of `share` by a door: how many write buffers its log has, where programs come to, and how many may be there at a time.
use Rattle.std.specs.Prelude.{ℕ, ◌&&◌, ◌≤◌, nat_le, true, if◌then◌else◌, List, [], ◌∷◌, codes, Option, Some, None}
use Rattle.std.specs.Str.{bytes_eq}
use Rattle.std.specs.String.{string_bytes}
use Rattle.clap.specs.Simple.{App, on_top, with_rule}
use Rattle.clap.specs.Walk.{Row, Text, first_of, is_empty}
use Rattle.clap.specs.Words.{matches_of}
use Rattle.clap.specs.Faults.{fault_of}
use Rattle.clfs_lsn.specs.Limits.{most_clients, most_write_buffers}
use Rattle.clfs_command.specs.Command.{number_of}
use Rattle.clfs_command.specs.Line.{command_named, needed, with_default}
use Rattle.clfs_command.specs.Share.{buffers_of}
use Rattle.clfs_command.specs.declared.door.DoorWords.{DoorWords}

-- what `share` by a door is asked for with: the folder in which the door is, and how many programs may be there at a time
pub record AskedDoor : Type 0 where
  pub buffers : ℕ
  pub place : Text
  pub clients : ℕ

-- what was asked for
abbrev pub asked_door_of : DoorWords → AskedDoor
asked_door_of door = record { buffers = door.write_buffers; place = string_bytes door.place; clients = door.clients }

-- `share --door PLACE --clients N [--write-buffers W]`, whose words are those after `share`
abbrev pub door_line : App
door_line = with_rule (with_rule (with_rule (on_top (λ s. record s { no_binary_name = true }) (command_named (codes "share")))
    (needed (codes "door"))) (needed (codes "clients"))) (with_default (codes "write-buffers") (codes "4"))

-- the clients, if a log can have so many
abbrev pub count_of : Option ℕ → Option ℕ
count_of (Some clients) = if nat_le 1 clients && nat_le clients most_clients then Some clients else None
count_of None = None

-- sharing a log with these write buffers among so many clients that come to this place
abbrev pub door_with : Option ℕ → Option Text → Option ℕ → Option AskedDoor
door_with (Some buffers) (Some place) (Some clients) = Some (record { buffers = buffers; place = place; clients = clients })
door_with _ _ _ = None

-- what rows that clap found ask for
abbrev pub door_in : List Row → Option AskedDoor
door_in rows = door_with (buffers_of (number_of (codes "write-buffers") rows)) (first_of (codes "door") rows) (count_of (number_of (codes "clients") rows))

-- what words after `share` ask for: nothing if clap finds a fault in them
abbrev pub door_by : List Text → Option AskedDoor
door_by words = if is_empty (fault_of door_line words) then door_in (matches_of door_line words) else None

-- What words after FOLDER ask `share` by a door for. They ask for nothing if the first isn't `share`, if clap finds a fault in the others, or if a log can't
-- have so many write buffers or clients.
abbrev pub door_of : List Text → Option AskedDoor
door_of [] = None
door_of (name ∷ words) = if bytes_eq name (codes "share") then door_by words else None

-- the numbers of what is asked for are such
abbrev pub IsDoorInRange : DoorWords → Type 0
IsDoorInRange door = ((1 ≤ door.write_buffers) × (door.write_buffers ≤ most_write_buffers)) × ((1 ≤ door.clients) × (door.clients ≤ most_clients))
