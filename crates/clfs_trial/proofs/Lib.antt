mod Lines
mod Lengths
