pub mod Sets
pub mod Blocks
