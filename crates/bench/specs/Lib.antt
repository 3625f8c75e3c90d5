pub mod Lines
pub mod Jobs
pub mod Cards
