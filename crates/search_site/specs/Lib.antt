pub mod Arrays
pub mod Decoded
