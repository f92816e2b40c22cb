pub mod Calls
pub mod Contents
pub mod Moments
pub mod Places
pub mod Putting
pub mod Images
pub mod Shown
pub mod Carrying
