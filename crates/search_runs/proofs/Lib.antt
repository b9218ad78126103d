pub mod EndedLaws
pub mod LengthLaws
mod WordLaws
mod TableLaws
