pub mod HitLaws
pub mod SceneLaws
pub mod WalkLaws
pub mod WordLaws
