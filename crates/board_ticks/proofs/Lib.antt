mod ByteLaws
pub mod TickLaws
