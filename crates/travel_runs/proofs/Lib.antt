pub mod RunLaws
pub mod EntryLaws
pub mod TableLaws
pub mod CallLaws
pub mod Theorems
