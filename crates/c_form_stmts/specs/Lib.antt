pub mod Cases
pub mod Functions
pub mod Labels
pub mod Lines
pub mod Names
pub mod Statements
