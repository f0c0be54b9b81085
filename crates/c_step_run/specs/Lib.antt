pub mod Coding
pub mod Cuts
pub mod Leaps
pub mod Meaning
pub mod Ready
pub mod Resting
