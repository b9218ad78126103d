pub mod Sweeps
pub mod Nodes
