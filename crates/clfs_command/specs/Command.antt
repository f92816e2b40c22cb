-- The command that the words after FOLDER name: what clap finds in them, with numbers that a log can have.
use Rattle.std.specs.Prelude.{ℕ, Bool, ◌&&◌, ◌-◌, ◌*◌, ◌≤◌, nat_le, false, if◌then◌else◌, List, ◌++◌, length, replicate, codes, Option, Some, None}
use Rattle.std.specs.Option.{option_map, option_and_then, option_map_or}
use Rattle.std.specs.Str.{bytes_eq}
use Rattle.clap.specs.Walk.{Row, Text, first_of, is_empty}
use Rattle.clap.specs.Simple.{subcommand_of}
use Rattle.clap.specs.Faults.{fault_of}
use Rattle.clfs_lsn.specs.Limits.{longest_name, most_block_sectors, most_container_sectors, most_containers, most_write_buffers}
use Rattle.clfs_lsn.specs.Size.{IsShape}
use Rattle.clfs_lsn.specs.Words.{decimal_number, lsn_of_word}
use Rattle.clfs_command.specs.Line.{command_line}
use Rattle.clfs_command.specs.declared.words.ScriptLength.{ScriptLength}
use Rattle.clfs_command.specs.declared.words.ScriptLength.TheVariants.{Limited, Endless}
use Rattle.clfs_command.specs.declared.words.AskedName.{AskedName}
use Rattle.clfs_command.specs.declared.words.DataWord.{DataWord}
use Rattle.clfs_command.specs.declared.words.DataWord.TheVariants.{Hex, Nothing}
use Rattle.clfs_command.specs.declared.words.DataWord.TheVariants as words
use Rattle.clfs_command.specs.declared.words.Command.{Command}
use Rattle.clfs_command.specs.declared.words.Command.TheVariants.{Format, Serve, Race, Trial, Crew, Check, Crowd, Dump, Txn, Archive, Restore}

-- the decimal number of 32 bits that an option has, without a sign or a leading zero
abbrev pub number_of : Text → List Row → Option ℕ
number_of name options = option_and_then (decimal_number 4294967295) (first_of name options)

-- whether an option without a value is there: clap reads it as `true` or `false`
abbrev pub is_set : Text → List Row → Bool
is_set name options = option_map_or (λ text. bytes_eq text (codes "true")) (first_of name options) false

-- the most lines of a trial
abbrev pub most_trial_lines : ℕ
most_trial_lines = 100000

-- the most threads of a crew, and of a crowd
abbrev pub most_crew_threads : ℕ
most_crew_threads = 8

-- the most records that each thread of a crew or of a crowd appends
abbrev pub most_crew_records : ℕ
most_crew_records = 1000

-- the sizes that a log can have: its blocks, two of which fit into a container, and its containers
abbrev pub is_size : ℕ → ℕ → ℕ → Bool
is_size block container containers =
    nat_le 1 block && nat_le block most_block_sectors && nat_le (2 * block) container && nat_le container most_container_sectors
    && nat_le 1 containers && nat_le containers most_containers

-- making a log of these sizes, dedicated or not, if a log can have them
abbrev pub format_of : Option ℕ → Option ℕ → Option ℕ → Bool → Option Command
format_of (Some block) (Some container) (Some containers) dedicated =
    if is_size block container containers
    then Some (Format (record { block_sectors = block; container_sectors = container }) containers dedicated) else None
format_of _ _ _ dedicated = None

-- how long a script may get
abbrev pub length_of : Bool → ScriptLength
length_of endless = if endless then Endless else Limited

-- the most blocks that were read that are kept
abbrev pub most_read_buffers : ℕ
most_read_buffers = 4096

-- so many write buffers a log can have, and so many blocks that were read it can keep
abbrev pub are_buffers : ℕ → ℕ → Bool
are_buffers buffers reads = nat_le 1 buffers && nat_le buffers most_write_buffers && nat_le 1 reads && nat_le reads most_read_buffers

-- serving a script of at most such a length with so many write buffers and read buffers, if a log can have them
abbrev pub serve_of : Option ℕ → Option ℕ → ScriptLength → Option Command
serve_of (Some buffers) (Some reads) length = if are_buffers buffers reads then Some (Serve buffers reads length) else None
serve_of _ _ length = None

-- a race with so many write buffers, if a log can have them
abbrev pub race_of : Option ℕ → Option Command
race_of (Some buffers) = if nat_le 1 buffers && nat_le buffers most_write_buffers then Some (Race buffers) else None
race_of None = None

-- a trial of this number with so many lines, if it can have them
abbrev pub trial_of : Option ℕ → Option ℕ → Option Command
trial_of (Some number) (Some count) = if nat_le 1 count && nat_le count most_trial_lines then Some (Trial number count) else None
trial_of _ _ = None

-- a crew of so many threads, each with so many records, if it can have them
abbrev pub crew_of : Option ℕ → Option ℕ → Option Command
crew_of (Some threads) (Some count) =
    if nat_le 1 threads && nat_le threads most_crew_threads && nat_le 1 count && nat_le count most_crew_records then Some (Crew threads count) else None
crew_of _ _ = None

-- a crowd of so many threads, each with so many records, if it can have them
abbrev pub crowd_of : Option ℕ → Option ℕ → Option Command
crowd_of (Some threads) (Some count) =
    if nat_le 1 threads && nat_le threads most_crew_threads && nat_le 1 count && nat_le count most_crew_records then Some (Crowd threads count) else None
crowd_of _ _ = None

-- the name that a word is, if a stream can have so long a name
abbrev pub name_of_word : Text → Option AskedName
name_of_word word =
    if nat_le 1 (length word) && nat_le (length word) longest_name
    then Some (record { bytes = word ++ replicate (longest_name - length word) 0; length = length word }) else None

-- what an option that may be missing stands for, by what its text does
abbrev pub asked_by : {T : Type 0} → (Text → Option T) → Option Text → Option (Option T)
asked_by reads None = Some None
asked_by reads (Some text) = option_map Some (reads text)

-- the LSN that an option has, if it is there
abbrev pub lsn_of : Text → List Row → Option (Option ℕ)
lsn_of name options = asked_by lsn_of_word (first_of name options)

-- the name that an option has, if it is there
abbrev pub name_of : Text → List Row → Option (Option AskedName)
name_of name options = asked_by name_of_word (first_of name options)

-- the form of data that a word names
abbrev pub data_of_word : Text → Option DataWord
data_of_word word =
    if bytes_eq word (codes "hex") then Some Hex else if bytes_eq word (codes "text") then Some words.Text
    else if bytes_eq word (codes "none") then Some Nothing else None

-- the form of data that an option has
abbrev pub data_of : Text → List Row → Option DataWord
data_of name options = option_and_then data_of_word (first_of name options)

-- a dump of these records, if all that is asked for can be
abbrev pub dump_of : Option (Option ℕ) → Option (Option ℕ) → Option (Option AskedName) → Option DataWord → Option Command
dump_of (Some from) (Some to) (Some stream) (Some form) = Some (Dump (record { from = from; to = to; stream = stream; form = form }))
dump_of _ _ _ _ = None

-- restoring a log up to this LSN, or as far as archives reach, if what is asked for is an LSN
abbrev pub restore_of : Option (Option ℕ) → Option Command
restore_of (Some up_to) = Some (Restore up_to)
restore_of None = None

-- the command that a subcommand and its options stand for
abbrev pub with_options : Text × List Row → Option Command
with_options (name, options) =
    if bytes_eq name (codes "format")
    then format_of (number_of (codes "block-sectors") options) (number_of (codes "container-sectors") options) (number_of (codes "containers") options)
    (is_set (codes "dedicated") options)
    else if bytes_eq name (codes "serve") then serve_of (number_of (codes "write-buffers") options) (number_of (codes "read-buffers") options)
    (length_of (is_set (codes "endless") options))
    else if bytes_eq name (codes "race") then race_of (number_of (codes "write-buffers") options)
    else if bytes_eq name (codes "trial") then trial_of (number_of (codes "NUMBER") options) (number_of (codes "COUNT") options)
    else if bytes_eq name (codes "crew") then crew_of (number_of (codes "THREADS") options) (number_of (codes "COUNT") options)
    else if bytes_eq name (codes "check") then Some Check
    else if bytes_eq name (codes "crowd") then crowd_of (number_of (codes "THREADS") options) (number_of (codes "COUNT") options)
    else if bytes_eq name (codes "dump") then dump_of (lsn_of (codes "from") options) (lsn_of (codes "to") options) (name_of (codes "stream") options)
    (data_of (codes "data") options)
    else if bytes_eq name (codes "txn") then Some Txn
    else if bytes_eq name (codes "archive") then Some Archive
    else if bytes_eq name (codes "restore") then restore_of (lsn_of (codes "up-to") options) else None

-- The command that words name. They name none where clap finds a fault in them, or a number isn't one that a log can have.
abbrev pub command_of : List Text → Option Command
command_of words = if is_empty (fault_of command_line words) then option_and_then with_options (subcommand_of command_line words) else None

-- the numbers of a command are such
abbrev pub HasItsRanges : Command → Type 0
HasItsRanges (Format shape containers dedicated) = IsShape shape × (1 ≤ containers) × (containers ≤ most_containers)
HasItsRanges (Serve buffers reads length) = (1 ≤ buffers) × ((buffers ≤ most_write_buffers) × ((1 ≤ reads) × (reads ≤ most_read_buffers)))
HasItsRanges (Race buffers) = (1 ≤ buffers) × (buffers ≤ most_write_buffers)
HasItsRanges (Trial number count) = (1 ≤ count) × (count ≤ most_trial_lines)
HasItsRanges (Crew threads count) = (1 ≤ threads) × ((threads ≤ most_crew_threads) × ((1 ≤ count) × (count ≤ most_crew_records)))
HasItsRanges Check = Unit {0}
HasItsRanges (Dump options) = Unit {0}
HasItsRanges Txn = Unit {0}
HasItsRanges Archive = Unit {0}
HasItsRanges (Restore up_to) = Unit {0}
HasItsRanges (Crowd threads count) = (1 ≤ threads) × ((threads ≤ most_crew_threads) × ((1 ≤ count) × (count ≤ most_crew_records)))
