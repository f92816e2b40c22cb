pub mod Selecting
pub mod Lines
pub mod Telling
pub mod Reading
pub mod Printing
pub mod Vector
