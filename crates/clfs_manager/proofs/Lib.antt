pub mod Joining
pub mod KeptHeads
pub mod Settled
pub mod Made
pub mod Heads
pub mod Holding
pub mod Opened
pub mod OpenedOnDisk
pub mod Ending
pub mod SplitRecords
pub mod GroupRecords
pub mod ClosedPlace
pub mod FlushedLog
pub mod AreasChange
pub mod Aligning
pub mod FlushKeeps
pub mod Among
pub mod Fetched
pub mod ReadKeeps
pub mod Gotten
pub mod Reached
pub mod ReadSteps
pub mod ReadCalls
pub mod Numbers
pub mod Holds
pub mod Extents
pub mod CopiedLog
pub mod StoredKeeps
pub mod SettingsKeep
pub mod ArchivedLog
pub mod StillStorable
pub mod Sized
pub mod Reserved
pub mod Intact
pub mod MovedBase
pub mod AddedStream
mod Sealed
mod PutRecord
mod TurnedLog
pub mod LaterHold
pub mod Restarted
mod ReadyLog
pub mod OwnRefusals
pub mod SameCut
pub mod FilesHold
pub mod OpenedAnew
mod CurrentCopy
pub mod KeptFiles
pub mod StepCalls
pub mod AdvancedLog
mod RestartCall
mod PreparedCall
mod AppendCall
pub mod Crashes
pub mod Changing
mod Called
pub mod Through
pub mod Stages
pub mod CrashedRestart
mod CopiedMeanwhile
mod CopyingCalls
mod Words
pub mod Placed
pub mod WritingCalls
