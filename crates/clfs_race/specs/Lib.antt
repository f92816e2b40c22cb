pub mod Feeds
pub mod Taken
pub mod Stopped
pub mod Scripts
pub mod Divided
pub mod Meets
