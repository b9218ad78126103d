mod EightLaws
mod TurnLaws
pub mod WordLaws
