pub mod Sectors
pub mod Appends
pub mod Finds
pub mod Thresholds
pub mod Steps
pub mod Fewest
