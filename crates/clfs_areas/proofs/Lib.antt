pub mod First
pub mod Parts
pub mod Named
pub mod Changed
pub mod ChangedCursors
pub mod Cursors
pub mod Held
pub mod ChangedHeld
pub mod Clients
pub mod Numbers
pub mod Made
pub mod Gone
mod Words
