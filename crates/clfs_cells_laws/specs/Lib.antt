pub mod Loads
pub mod Breaking
pub mod Sets
pub mod Tables
pub mod Stores
pub mod Steps
pub mod Crashes
pub mod Reasons
