mod Scans
mod HexDigits
mod WordEnds
mod Colons
mod Fields
mod Encoded
mod Pairs
