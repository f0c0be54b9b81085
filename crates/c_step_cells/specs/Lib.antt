pub mod Chains
pub mod Depths
pub mod Growing
