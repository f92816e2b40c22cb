mod Buildings
mod Frames
mod Gates
mod Reading
mod Sealing
mod Searches
mod Words
mod Zeros
mod Spellings
mod Splices
pub mod Fronts
mod RecordsRead
