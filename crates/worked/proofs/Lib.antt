pub mod FourInLine
pub mod Halls
pub mod Pictures
pub mod Runs
pub mod TravelTimes
