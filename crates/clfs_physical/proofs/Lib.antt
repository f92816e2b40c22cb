pub mod Joining
pub mod Lengths
pub mod Groups
pub mod Copies
pub mod Logs
pub mod Listed
pub mod Counting
pub mod Taken
pub mod Growing
pub mod NextCopies
mod Words
