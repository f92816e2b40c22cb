pub mod Numbers
pub mod Counts
pub mod Frames
pub mod Seen
pub mod Found
pub mod OneKind
pub mod Owned
pub mod Started
pub mod Removed
pub mod Ended
pub mod Moved
pub mod Opened
pub mod Freed
mod Words
