pub mod Archiving
pub mod Restoring
pub mod Outcomes
