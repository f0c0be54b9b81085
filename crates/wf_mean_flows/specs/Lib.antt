pub mod Flows
pub mod Loops
pub mod Returns
