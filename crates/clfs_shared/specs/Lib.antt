pub mod Rooms
pub mod Journal
pub mod Counts
pub mod Crashes
pub mod Reached
pub mod Sessions
pub mod Waiting
