pub mod Generated
pub mod Stage
pub mod Worked
