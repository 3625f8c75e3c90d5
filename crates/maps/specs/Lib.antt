pub mod Banks
pub mod Maps
