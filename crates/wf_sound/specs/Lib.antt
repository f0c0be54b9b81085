pub mod Callees
pub mod Examples
pub mod OneStep
pub mod Positions
pub mod Worlds
