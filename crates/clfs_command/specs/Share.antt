-- The words of `share`: how many write buffers its log has, and of each client where its lines come from and where its replies go.
use Rattle.std.specs.Prelude.{ℕ, Bool, ◌&&◌, ◌*◌, ◌≤◌, not, nat_le, true, false, if◌then◌else◌, List, [], ◌∷◌, length, map, codes, Option, Some, None}
use Rattle.std.specs.List.{list_any}
use Rattle.std.specs.Option.{option_map}
use Rattle.std.specs.Str.{bytes_eq}
use Rattle.std.specs.String.{string_bytes}
use Rattle.clap.specs.Walk.{Row, Text, all_of, is_empty}
use Rattle.clap.specs.Words.{matches_of}
use Rattle.clap.specs.Faults.{fault_of}
use Rattle.clfs_lsn.specs.Limits.{most_clients, most_write_buffers}
use Rattle.clfs_command.specs.Command.{number_of}
use Rattle.clfs_command.specs.Line.{share_line}
use Rattle.clfs_command.specs.declared.share.PathPair.{PathPair}
use Rattle.clfs_command.specs.declared.share.ShareWords.{ShareWords}

-- a client's two paths: where its lines come from, and where its replies go
pub record Paths : Type 0 where
  pub input : Text
  pub output : Text

-- what `share` is asked for with; the first paths are those of client 1
pub record Asked : Type 0 where
  pub buffers : ℕ
  pub clients : List Paths

-- the paths of a pair
abbrev pub paths_of : PathPair → Paths
paths_of pair = record { input = string_bytes pair.input; output = string_bytes pair.output }

-- what was asked for
abbrev pub asked_of : ShareWords → Asked
asked_of share = record { buffers = share.write_buffers; clients = map paths_of share.clients.items }

-- paths are taken two by two
abbrev pub pairs_of : List Text → Option (List Paths)
pairs_of [] = Some []
pairs_of (input ∷ []) = None
pairs_of (input ∷ output ∷ paths) = option_map (λ pairs. record { input = input; output = output } ∷ pairs) (pairs_of paths)

-- no path stands twice
abbrev pub are_apart : List Text → Bool
are_apart [] = true
are_apart (path ∷ paths) = not (list_any (λ other. bytes_eq other path) paths) && are_apart paths

-- some paths, those of so many clients at most, of which none stands twice
abbrev pub can_be_shared : List Text → Bool
can_be_shared paths = nat_le 1 (length paths) && nat_le (length paths) (2 * most_clients) && are_apart paths

-- the clients that have these paths, if there can be such clients
abbrev pub clients_of : List Text → Option (List Paths)
clients_of paths = if can_be_shared paths then pairs_of paths else None

-- the write buffers, if a log can have so many
abbrev pub buffers_of : Option ℕ → Option ℕ
buffers_of (Some buffers) = if nat_le 1 buffers && nat_le buffers most_write_buffers then Some buffers else None
buffers_of None = None

-- sharing a log with these write buffers among the clients that have these paths
abbrev pub share_with : Option ℕ → Option (List Text) → Option Asked
share_with (Some buffers) (Some paths) = option_map (λ clients. record { buffers = buffers; clients = clients }) (clients_of paths)
share_with _ _ = None

-- what rows that clap found ask for
abbrev pub share_in : List Row → Option Asked
share_in rows = share_with (buffers_of (number_of (codes "write-buffers") rows)) (all_of (codes "PATHS") rows)

-- what words after `share` ask for: nothing if clap finds a fault in them
abbrev pub share_by : List Text → Option Asked
share_by words = if is_empty (fault_of share_line words) then share_in (matches_of share_line words) else None

-- whether the first word is `share`
abbrev pub names_share : List Text → Bool
names_share [] = false
names_share (name ∷ words) = bytes_eq name (codes "share")

-- What words after FOLDER ask `share` for. They ask for nothing if the first isn't `share`, if clap finds a fault in the others, or if a log can't have so
-- many write buffers or clients with such paths.
abbrev pub share_of : List Text → Option Asked
share_of [] = None
share_of (name ∷ words) = if bytes_eq name (codes "share") then share_by words else None

-- the numbers of what is asked for are such, and there are clients
abbrev pub IsInRange : ShareWords → Type 0
IsInRange share = ((1 ≤ share.write_buffers) × (share.write_buffers ≤ most_write_buffers))
    × ((1 ≤ length share.clients.items) × (length share.clients.items ≤ most_clients))
