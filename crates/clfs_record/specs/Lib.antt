pub mod Decoding
pub mod Fields
