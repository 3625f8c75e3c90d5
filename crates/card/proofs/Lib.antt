pub mod Contents
pub mod Looks
