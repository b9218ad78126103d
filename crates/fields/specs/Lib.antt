pub mod Places
pub mod Items
