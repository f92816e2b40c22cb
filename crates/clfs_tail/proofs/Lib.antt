pub mod Holds
pub mod Joining
pub mod Leasts
pub mod Trees
