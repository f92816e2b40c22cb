pub mod Queued
pub mod Rows
pub mod Group
pub mod Held
pub mod Kept
