pub mod RunLaws
pub mod FirstLaws
