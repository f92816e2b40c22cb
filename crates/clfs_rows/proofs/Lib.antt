pub mod BrokenLog
pub mod Decisions
pub mod SameStates
pub mod SurvivorTests
pub mod ValidTests
pub mod StorableTests
pub mod SameTests
pub mod ReplyTests
pub mod Shuffled
pub mod OneEntry
mod Words
