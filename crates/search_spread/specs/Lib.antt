pub mod Spread
pub mod Notes
