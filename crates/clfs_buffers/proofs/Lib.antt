mod Positions
mod Fronts
mod Changes
mod Told
mod Words
