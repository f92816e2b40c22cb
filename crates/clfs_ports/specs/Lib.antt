pub mod Cause
pub mod Ports
