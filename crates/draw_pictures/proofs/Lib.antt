pub mod OneFloat
pub mod Sixteenths
pub mod Theorems
pub mod Cases
