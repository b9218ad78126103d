pub mod Motions
pub mod Centres
