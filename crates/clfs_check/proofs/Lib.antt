mod Readings
mod Lengths
mod Reports
mod Faults
