pub mod Unfolds
pub mod Invariants
pub mod Raises
