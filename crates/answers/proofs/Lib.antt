pub mod Laws
pub mod DeskLaws
