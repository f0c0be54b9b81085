pub mod Resting
pub mod Kinds
