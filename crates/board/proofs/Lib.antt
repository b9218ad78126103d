pub mod EditionLaws
pub mod HolderLaws
