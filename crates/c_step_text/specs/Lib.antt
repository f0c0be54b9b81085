pub mod Acting
pub mod ByHand
pub mod Emitted
pub mod Flat
pub mod Labels
pub mod Layout
pub mod Numbered
