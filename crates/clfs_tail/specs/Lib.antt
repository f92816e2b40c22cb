pub mod Firsts
pub mod Row
pub mod Tree
