pub mod FoundLaws
pub mod LoopLaws
pub mod StackLaws
pub mod TurnLaws
