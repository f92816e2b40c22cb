pub mod Shown
pub mod InRow
pub mod Contents
pub mod Holding
pub mod Blocks
pub mod Keeping
pub mod Sealing
pub mod Taking
pub mod Grouping
pub mod Locating
mod Words
