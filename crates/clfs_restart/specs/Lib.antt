pub mod Row
pub mod Restarts
