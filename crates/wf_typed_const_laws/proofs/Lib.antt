pub mod Chains
pub mod Constants
pub mod Exprs
pub mod Lengths
pub mod Operators
