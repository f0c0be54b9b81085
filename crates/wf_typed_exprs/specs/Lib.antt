pub mod Chains
pub mod Forms
pub mod Growth
pub mod Nodes
pub mod Right
