-- The lines of a dump. Containers and sizes are told in decimal numbers, LSNs as in a script.
use Rattle.std.specs.Prelude.{ℕ, ◌+◌, ◌||◌, ◌==◌, ◌&&◌, nat_le, if◌then◌else◌, List, [], ◌∷◌, ◌++◌, length, codes}
use Rattle.std.specs.List.{flat_map}
use Rattle.std.specs.Fmt.{decimal}
use Rattle.clfs_lsn.specs.Words.{lsn_text, data_text}
use Rattle.clfs_lsn.specs.declared.entry.LogEntry.{LogEntry}
use Rattle.clfs_model.specs.Text.{kind_text}
use Rattle.clfs_block.specs.declared.head.BlockHead.{BlockHead}
use Rattle.clfs_base.specs.declared.image.BaseImage.{BaseImage}
use Rattle.clfs_base.specs.declared.image.Row.{Row}
use Rattle.clfs_dump.specs.declared.selection.DataForm.{DataForm}
use Rattle.clfs_dump.specs.declared.selection.DataForm.TheVariants.{Hex, Text, Nothing}

-- a text and then a number
abbrev pub number_after : List ℕ → ℕ → List ℕ
number_after text number = text ++ decimal number

-- a text and then an LSN
abbrev pub place_after : List ℕ → ℕ → List ℕ
place_after text lsn = text ++ lsn_text lsn

-- the archive tail, or that archiving is off
abbrev pub tail_text : BaseImage → List ℕ
tail_text image = if image.archiving then lsn_text image.tail else codes "off"

-- the sizes of a log: of its blocks and containers in sectors, its containers, the files that were made, the containers that are listed, its streams
abbrev pub sizes_text : BaseImage → List ℕ
sizes_text image =
    number_after (codes "log block ") image.block_sectors ++ (number_after (codes " container ") image.container_sectors
    ++ (number_after (codes " containers ") image.containers ++ (number_after (codes " files ") image.files_made
    ++ (number_after (codes " listed ") (length image.files) ++ number_after (codes " streams ") (length image.streams)))))

-- the archive tail of a log, and which of its base copies this is: its version, its slot and its turn
abbrev pub copy_text : ℕ → BaseImage → List ℕ
copy_text slot image =
    codes " archive " ++ (tail_text image ++ (number_after (codes " version ") image.version ++ (number_after (codes " slot ") slot
    ++ (number_after (codes " turn ") image.turn ++ codes "\n"))))

-- the line of a log, by the slot of its newest base copy and the copy
abbrev pub log_line : ℕ → BaseImage → List ℕ
log_line slot image = sizes_text image ++ copy_text slot image

-- the line of a stream of this number: its base as the copy has it, and its name
abbrev pub stream_line : ℕ → Row → List ℕ
stream_line number row =
    number_after (codes "stream ") number ++ (place_after (codes " base ") row.base ++ (codes " " ++ (row.name ++ codes "\n")))

-- the lines of streams with numbers from one on
abbrev pub stream_lines : ℕ → List Row → List ℕ
stream_lines number [] = []
stream_lines number (row ∷ rows) = stream_line number row ++ stream_lines (number + 1) rows

-- the line of a listed container: its id and the number of its file
abbrev pub container_line : ℕ → ℕ → List ℕ
container_line id file = number_after (codes "container ") id ++ (number_after (codes " file ") file ++ codes "\n")

-- the line of a block: the LSN of its first record, and what its header says
abbrev pub block_line : ℕ → BlockHead → List ℕ
block_line start head =
    place_after (codes "block ") start ++ (number_after (codes " sectors ") head.sectors ++ (number_after (codes " records ") head.records
    ++ (number_after (codes " used ") head.used ++ codes "\n")))

-- a byte of data between quotation marks: as it is, with a backslash before it, or by its number in hexadecimal digits
abbrev pub escaped : ℕ → List ℕ
escaped byte =
    if (byte == 34) || (byte == 92) then 92 ∷ byte ∷ []
    else if nat_le 32 byte && nat_le byte 126 then byte ∷ []
    else codes "\\x" ++ data_text (byte ∷ [])

-- data between quotation marks
abbrev pub quoted : List ℕ → List ℕ
quoted bytes = codes "\"" ++ (flat_map escaped bytes ++ codes "\"")

-- the data of a record at the end of its line
abbrev pub data_part : DataForm → List ℕ → List ℕ
data_part Hex bytes = codes " " ++ data_text bytes
data_part Text bytes = codes " " ++ quoted bytes
data_part Nothing bytes = []

-- what a record is: its LSN, its stream and its kind
abbrev pub record_front : LogEntry → List ℕ
record_front entry = place_after (codes "record ") entry.lsn ++ (number_after (codes " ") entry.stream ++ (codes " " ++ kind_text entry.kind))

-- what it is linked to: its previous link, its undo-next link and its new base
abbrev pub record_links : LogEntry → List ℕ
record_links entry = place_after (codes " ") entry.previous ++ (place_after (codes " ") entry.undo_next ++ place_after (codes " ") entry.new_base)

-- the line of a record: that of a script's reply, with the number of the stream after the LSN
abbrev pub record_line : DataForm → LogEntry → List ℕ
record_line form entry = record_front entry ++ (record_links entry ++ (data_part form entry.bytes ++ codes "\n"))

-- the last line: where the log goes on
abbrev pub end_line : ℕ → List ℕ
end_line lsn = place_after (codes "end ") lsn ++ codes "\n"

-- or the first wrong byte
abbrev pub damage_line : ℕ → ℕ → ℕ → List ℕ
damage_line container offset at =
    number_after (codes "damage container ") container ++ (number_after (codes " offset ") offset ++ (number_after (codes " byte ") at ++ codes "\n"))
