pub mod StepsLaws
pub mod ProgressLaws
mod WalkLaws
