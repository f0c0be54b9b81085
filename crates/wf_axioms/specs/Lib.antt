pub mod Axioms
pub mod Matching
pub mod Bindings
pub mod Items
