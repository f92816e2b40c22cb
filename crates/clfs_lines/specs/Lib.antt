pub mod Feeds
pub mod Taken
pub mod Through
pub mod Reached
pub mod Ends
pub mod Answering
pub mod Stopped
