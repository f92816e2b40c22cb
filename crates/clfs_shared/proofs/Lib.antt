pub mod Counting
pub mod Crashing
pub mod Outliving
pub mod Reaching
pub mod Telling
