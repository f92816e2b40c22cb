pub mod CopyReads
pub mod Searches
pub mod Chains
pub mod Filling
pub mod Tables
pub mod Places
pub mod Ranges
pub mod Spelled
pub mod Taken
pub mod Copies
pub mod Images
pub mod AskedFields
pub mod Earlier
pub mod Telling
mod Words
