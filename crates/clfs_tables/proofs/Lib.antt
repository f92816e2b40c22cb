pub mod Kept
pub mod StreamRows
pub mod TableSteps
pub mod Tabling
