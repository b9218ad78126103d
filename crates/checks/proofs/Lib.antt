pub mod Laws
pub mod Passed
