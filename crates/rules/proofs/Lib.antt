pub mod ControlWord
pub mod Laws
