pub mod Check
pub mod Ready
pub mod Halls
