pub mod Crew
pub mod Work
pub mod Crowd
pub mod Commits
pub mod Share
pub mod Run
pub mod Door
