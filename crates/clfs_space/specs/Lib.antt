pub mod Appending
pub mod Enough
pub mod Growing
pub mod SpaceLaws
