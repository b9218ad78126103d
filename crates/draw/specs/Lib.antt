pub mod Drawable
pub mod Drawings
pub mod Steps
pub mod Drawn
pub mod Demand
