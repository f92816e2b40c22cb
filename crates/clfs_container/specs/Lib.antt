pub mod OpenBlocks
pub mod Writing
