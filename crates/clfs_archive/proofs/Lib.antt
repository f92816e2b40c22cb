pub mod Among
pub mod Counting
pub mod Extents
pub mod Finding
mod Found
pub mod Places
pub mod Sealing
