pub mod Rows
pub mod Searching
pub mod Keys
pub mod Kept
pub mod Table
