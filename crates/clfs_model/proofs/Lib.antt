pub mod Ways
pub mod CalmRuns
pub mod Heads
