mod DataLengths
mod LineConditions
mod CallsAlone
pub mod Outcomes
mod FirstFeed
mod Words
pub mod FirstLines
pub mod Gathering
pub mod SoFar
