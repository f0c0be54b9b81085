pub mod Inputs
pub mod Sinks
pub mod InMemory
