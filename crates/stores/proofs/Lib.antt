pub mod Elements
pub mod Changes
pub mod Frames
