pub mod Runs
pub mod Entries
pub mod Travel
pub mod Laws
