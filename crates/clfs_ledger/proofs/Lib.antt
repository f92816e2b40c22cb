pub mod HeldSectors
pub mod KeptRows
pub mod Places
pub mod Changes
