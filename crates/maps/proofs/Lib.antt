pub mod Places
pub mod MapCells
