pub mod Asked
pub mod Verbs
