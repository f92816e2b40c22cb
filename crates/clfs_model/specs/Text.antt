-- The text of replies: one line each, the client's number, a space and what was answered.
use Rattle.std.specs.Prelude.{ℕ, List, [], ◌∷◌, ◌++◌, length, codes, Option}
use Rattle.std.specs.List.{flat_map}
use Rattle.std.specs.Option.{option_map_or}
use Rattle.std.specs.Fmt.{decimal}
use Rattle.clfs_lsn.specs.Words.{hex_text, lsn_text, data_text}
use Rattle.clfs_lsn.specs.declared.entry.LogEntry.{LogEntry}
use Rattle.clfs_lsn.specs.declared.entry.Kind.{Kind}
use Rattle.clfs_lsn.specs.declared.entry.Kind.TheVariants.{Plain, Restart}
use Rattle.clfs_model.specs.declared.info.Extent.{Extent}
use Rattle.clfs_model.specs.declared.info.LogInfo.{LogInfo}
use Rattle.clfs_model.specs.declared.refusal.Refusal.{Refusal}
use Rattle.clfs_model.specs.declared.refusal.Refusal.TheVariants as refusals
use Rattle.clfs_model.specs.declared.reply.Reply.{Reply}
use Rattle.clfs_model.specs.declared.reply.Reply.TheVariants as replies
use Rattle.clfs_model.specs.Run.{Request, asks, reopens, bad_line}

-- a record's kind
abbrev pub kind_text : Kind → List ℕ
kind_text Plain = codes "data"
kind_text Restart = codes "restart"

-- the record's LSN, kind, previous link, undo-next link, new base and data
abbrev pub entry_text : LogEntry → List ℕ
entry_text entry =
    codes "record " ++ (lsn_text entry.lsn ++ (codes " " ++ (kind_text entry.kind ++ (codes " " ++ (lsn_text entry.previous
    ++ (codes " " ++ (lsn_text entry.undo_next ++ (codes " " ++ (lsn_text entry.new_base ++ (codes " " ++ data_text entry.bytes))))))))))

-- a container and the offsets between which it is to be archived, all in hexadecimal
abbrev pub extent_text : Extent → List ℕ
extent_text extent = codes " " ++ (hex_text extent.container ++ (codes ":" ++ (hex_text extent.low ++ (codes "-" ++ hex_text extent.high))))

-- the archive tail, or that archiving is off
abbrev pub archive_text : Option ℕ → List ℕ
archive_text archive = option_map_or lsn_text archive (codes "off")

-- the containers of a log and its sectors; `size` is that of a container in sectors
abbrev pub info_space_text : LogInfo → List ℕ
info_space_text info =
    codes "info containers " ++ (decimal info.containers ++ (codes " free " ++ (decimal info.free_containers
    ++ (codes " size " ++ (decimal info.container_sectors ++ (codes " sectors " ++ (decimal info.free_sectors
    ++ (codes " reserved " ++ decimal info.reserved))))))))

-- where a stream and the log are
abbrev pub info_lsns_text : LogInfo → List ℕ
info_lsns_text info =
    codes " base " ++ (lsn_text info.base ++ (codes " last " ++ (lsn_text info.last ++ (codes " flushed " ++ (lsn_text info.flushed
    ++ (codes " restart " ++ (lsn_text info.restart ++ (codes " archive " ++ archive_text info.archive))))))))

-- what the log and a stream are like
abbrev pub info_text : LogInfo → List ℕ
info_text info = info_space_text info ++ info_lsns_text info

-- the number and the name of a refusal, and its fields in order
abbrev pub refusal_text : Refusal → List ℕ
refusal_text refusals.NoMemory = codes "1 NoMemory"
refusal_text refusals.DiskFault = codes "2 DiskFault"
refusal_text refusals.Broken = codes "3 Broken"
refusal_text (refusals.NotEnoughContainers have) = codes "4 NotEnoughContainers " ++ decimal have
refusal_text (refusals.Full free reserved need) =
    codes "5 Full " ++ (decimal free ++ (codes " " ++ (decimal reserved ++ (codes " " ++ decimal need))))
refusal_text (refusals.ReservationShort held need) = codes "6 ReservationShort " ++ (decimal held ++ (codes " " ++ decimal need))
refusal_text (refusals.RecordTooLong len greatest) = codes "7 RecordTooLong " ++ (decimal len ++ (codes " " ++ decimal greatest))
refusal_text (refusals.LinkInvalid lsn) = codes "8 LinkInvalid " ++ lsn_text lsn
refusal_text refusals.NoSuchStream = codes "9 NoSuchStream"
refusal_text refusals.NoSuchArea = codes "10 NoSuchArea"
refusal_text (refusals.Damaged container offset at) =
    codes "11 Damaged " ++ (decimal container ++ (codes " " ++ (decimal offset ++ (codes " " ++ decimal at))))
refusal_text refusals.NoSuchCursor = codes "12 NoSuchCursor"
refusal_text (refusals.StreamLimit count) = codes "13 StreamLimit " ++ decimal count
refusal_text (refusals.AreaLimit count) = codes "14 AreaLimit " ++ decimal count
refusal_text (refusals.CursorLimit open_now) = codes "15 CursorLimit " ++ decimal open_now
refusal_text (refusals.NameInvalid at) = codes "16 NameInvalid " ++ decimal at
refusal_text (refusals.RecordNonexistent lsn) = codes "17 RecordNonexistent " ++ lsn_text lsn
refusal_text refusals.EndOfLog = codes "18 EndOfLog"
refusal_text refusals.StartOfLog = codes "19 StartOfLog"
refusal_text refusals.NoRestart = codes "20 NoRestart"
refusal_text (refusals.TailInvalid lsn base last) =
    codes "21 TailInvalid " ++ (lsn_text lsn ++ (codes " " ++ (lsn_text base ++ (codes " " ++ lsn_text last))))
refusal_text (refusals.ArchiveTailInvalid lsn tail flushed) =
    codes "22 ArchiveTailInvalid " ++ (lsn_text lsn ++ (codes " " ++ (lsn_text tail ++ (codes " " ++ lsn_text flushed))))
refusal_text refusals.Ephemeral = codes "23 Ephemeral"
refusal_text (refusals.CantShrink active need) = codes "24 CantShrink " ++ (decimal active ++ (codes " " ++ decimal need))
refusal_text (refusals.ContainerLimit limit) = codes "25 ContainerLimit " ++ decimal limit
refusal_text (refusals.PolicyConflict least greatest) = codes "26 PolicyConflict " ++ (decimal least ++ (codes " " ++ decimal greatest))
refusal_text refusals.PolicyNotInstalled = codes "27 PolicyNotInstalled"
refusal_text (refusals.BadLine at) = codes "28 BadLine " ++ decimal at
refusal_text refusals.Dedicated = codes "29 Dedicated"

-- what was answered; numbers are decimal, LSNs and extents hexadecimal
abbrev pub reply_text : Reply → List ℕ
reply_text (replies.Stream number) = codes "stream " ++ decimal number
reply_text (replies.Area number) = codes "area " ++ decimal number
reply_text replies.Done = codes "ok"
reply_text (replies.Held sectors) = codes "held " ++ decimal sectors
reply_text (replies.Sectors sectors) = codes "sectors " ++ decimal sectors
reply_text (replies.Placed lsn) = codes "lsn " ++ lsn_text lsn
reply_text (replies.Flushed lsn) = codes "flushed " ++ lsn_text lsn
reply_text (replies.Found cursor entry) = codes "cursor " ++ (decimal cursor ++ (codes " " ++ entry_text entry))
reply_text (replies.Next entry) = entry_text entry
reply_text (replies.Base lsn) = codes "base " ++ lsn_text lsn
reply_text (replies.Tail lsn) = codes "tail " ++ lsn_text lsn
reply_text (replies.Extents extents) = codes "extents " ++ (decimal (length extents) ++ flat_map extent_text extents)
reply_text (replies.Containers containers) = codes "containers " ++ decimal containers
reply_text (replies.Info info) = info_text info
reply_text (replies.Refused refusal) = codes "refused " ++ refusal_text refusal

-- the line of a reply, with its line feed
abbrev pub reply_line : ℕ → Reply → List ℕ
reply_line client reply = decimal client ++ (codes " " ++ (reply_text reply ++ 10 ∷ []))

-- A reply to a bad line names no client.
abbrev pub client_of : Request → ℕ
client_of (asks client call) = client
client_of (reopens client) = client
client_of (bad_line at) = 0

-- the lines of the replies to these requests, one after the other
abbrev pub output_of : List Request → List Reply → List ℕ
output_of [] replies = []
output_of (request ∷ requests) [] = []
output_of (request ∷ requests) (reply ∷ replies) = reply_line (client_of request) reply ++ output_of requests replies
