pub mod Encodings
pub mod ExampleProofs
pub mod Chains
pub mod Loops
pub mod Shapes
