pub mod Stored
pub mod Joined
pub mod Changes
pub mod Taking
