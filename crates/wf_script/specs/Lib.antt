pub mod Views
pub mod Values
pub mod Targets
