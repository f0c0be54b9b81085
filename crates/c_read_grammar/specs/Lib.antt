pub mod Feeding
pub mod FirstToken
pub mod Machine
pub mod Outcomes
pub mod Progress
pub mod Texts
pub mod Values
