pub mod WalkLaws
pub mod LightLaws
