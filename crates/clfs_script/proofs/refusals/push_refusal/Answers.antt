use Rattle.clfs_script.proofs.refusals.push_refusal.Goals as goal

pub returns-in-NoMemory : goal.returns-in-NoMemory
returns-in-NoMemory c = rw c.in-NoMemory.is c.extend_from_slice.ensures.ok

pub returns-in-DiskFault : goal.returns-in-DiskFault
returns-in-DiskFault c = rw c.in-DiskFault.is c.extend_from_slice-in-DiskFault.ensures.ok

pub returns-in-Broken : goal.returns-in-Broken
returns-in-Broken c = rw c.in-Broken.is c.extend_from_slice-in-Broken.ensures.ok

pub returns-in-NotEnoughContainers : goal.returns-in-NotEnoughContainers
returns-in-NotEnoughContainers c = rw c.in-NotEnoughContainers.is c.push_number.ensures

pub returns-in-Full : goal.returns-in-Full
returns-in-Full c = rw c.in-Full.is c.push_three.ensures

pub returns-in-ReservationShort : goal.returns-in-ReservationShort
returns-in-ReservationShort c = rw c.in-ReservationShort.is c.push_two.ensures

pub returns-in-RecordTooLong : goal.returns-in-RecordTooLong
returns-in-RecordTooLong c = rw c.in-RecordTooLong.is c.push_two-in-RecordTooLong.ensures

pub returns-in-LinkInvalid : goal.returns-in-LinkInvalid
returns-in-LinkInvalid c = rw c.in-LinkInvalid.is c.push_place.ensures

pub returns-in-NoSuchStream : goal.returns-in-NoSuchStream
returns-in-NoSuchStream c = rw c.in-NoSuchStream.is c.extend_from_slice-in-NoSuchStream.ensures.ok

pub returns-in-NoSuchArea : goal.returns-in-NoSuchArea
returns-in-NoSuchArea c = rw c.in-NoSuchArea.is c.extend_from_slice-in-NoSuchArea.ensures.ok

pub returns-in-Damaged : goal.returns-in-Damaged
returns-in-Damaged c = rw c.in-Damaged.is c.push_three-in-Damaged.ensures

pub returns-in-NoSuchCursor : goal.returns-in-NoSuchCursor
returns-in-NoSuchCursor c = rw c.in-NoSuchCursor.is c.extend_from_slice-in-NoSuchCursor.ensures.ok

pub returns-in-StreamLimit : goal.returns-in-StreamLimit
returns-in-StreamLimit c = rw c.in-StreamLimit.is c.push_number-in-StreamLimit.ensures

pub returns-in-AreaLimit : goal.returns-in-AreaLimit
returns-in-AreaLimit c = rw c.in-AreaLimit.is c.push_number-in-AreaLimit.ensures

pub returns-in-CursorLimit : goal.returns-in-CursorLimit
returns-in-CursorLimit c = rw c.in-CursorLimit.is c.push_number-in-CursorLimit.ensures

pub returns-in-NameInvalid : goal.returns-in-NameInvalid
returns-in-NameInvalid c = rw c.in-NameInvalid.is c.push_number-in-NameInvalid.ensures

pub returns-in-RecordNonexistent : goal.returns-in-RecordNonexistent
returns-in-RecordNonexistent c = rw c.in-RecordNonexistent.is c.push_place-in-RecordNonexistent.ensures

pub returns-in-EndOfLog : goal.returns-in-EndOfLog
returns-in-EndOfLog c = rw c.in-EndOfLog.is c.extend_from_slice-in-EndOfLog.ensures.ok

pub returns-in-StartOfLog : goal.returns-in-StartOfLog
returns-in-StartOfLog c = rw c.in-StartOfLog.is c.extend_from_slice-in-StartOfLog.ensures.ok

pub returns-in-NoRestart : goal.returns-in-NoRestart
returns-in-NoRestart c = rw c.in-NoRestart.is c.extend_from_slice-in-NoRestart.ensures.ok

pub returns-in-TailInvalid : goal.returns-in-TailInvalid
returns-in-TailInvalid c = rw c.in-TailInvalid.is c.push_places.ensures

pub returns-in-ArchiveTailInvalid : goal.returns-in-ArchiveTailInvalid
returns-in-ArchiveTailInvalid c = rw c.in-ArchiveTailInvalid.is c.push_places-in-ArchiveTailInvalid.ensures

pub returns-in-Ephemeral : goal.returns-in-Ephemeral
returns-in-Ephemeral c = rw c.in-Ephemeral.is c.extend_from_slice-in-Ephemeral.ensures.ok

pub returns-in-CantShrink : goal.returns-in-CantShrink
returns-in-CantShrink c = rw c.in-CantShrink.is c.push_two-in-CantShrink.ensures

pub returns-in-ContainerLimit : goal.returns-in-ContainerLimit
returns-in-ContainerLimit c = rw c.in-ContainerLimit.is c.push_number-in-ContainerLimit.ensures

pub returns-in-PolicyConflict : goal.returns-in-PolicyConflict
returns-in-PolicyConflict c = rw c.in-PolicyConflict.is c.push_two-in-PolicyConflict.ensures

pub returns-in-PolicyNotInstalled : goal.returns-in-PolicyNotInstalled
returns-in-PolicyNotInstalled c = rw c.in-PolicyNotInstalled.is c.extend_from_slice-in-PolicyNotInstalled.ensures.ok

pub returns-in-BadLine : goal.returns-in-BadLine
returns-in-BadLine c = rw c.in-BadLine.is c.push_number-in-BadLine.ensures

pub returns-in-Dedicated : goal.returns-in-Dedicated
returns-in-Dedicated c = rw c.in-Dedicated.is c.extend_from_slice-in-Dedicated.ensures.ok
