pub mod ArriveLaws
pub mod RightLaws
pub mod BlockLaws
mod LoopLaws
