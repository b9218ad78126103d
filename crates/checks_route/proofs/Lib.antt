pub mod Laws
pub mod RouteLaws
