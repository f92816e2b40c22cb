pub mod Growing
pub mod Placed
pub mod Refused
pub mod Granted
