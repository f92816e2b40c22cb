pub mod Lengths
pub mod Reporting
