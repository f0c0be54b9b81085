pub mod Codes
pub mod Knowing
