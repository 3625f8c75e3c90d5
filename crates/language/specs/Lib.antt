pub mod Acts
pub mod Texts
