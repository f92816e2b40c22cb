mod Holdings
pub mod Moments
pub mod Places
mod Replays
mod Tables
