pub mod ArrayLaws
pub mod DecodedLaws
