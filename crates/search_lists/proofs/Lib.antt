pub mod ListLaws
pub mod WalkLaws
