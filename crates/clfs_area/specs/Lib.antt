pub mod Areas
pub mod Calls
pub mod Causes
pub mod Names
