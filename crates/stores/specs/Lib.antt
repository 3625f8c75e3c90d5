pub mod Faults
pub mod Texts
pub mod Meaning
pub mod Memory
pub mod Layers
pub mod Proper
