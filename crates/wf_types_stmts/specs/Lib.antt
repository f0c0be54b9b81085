pub mod Statements
pub mod Targets
