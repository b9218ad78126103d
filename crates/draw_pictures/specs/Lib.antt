pub mod Floats
pub mod Laws
pub mod Cases
