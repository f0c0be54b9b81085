pub mod ByHand
pub mod Doings
pub mod Emits
pub mod Landings
pub mod Numbers
pub mod Values
