pub mod Started
pub mod Code
pub mod Active
