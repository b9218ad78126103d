mod PlaceLaws
pub mod SizeLaws
