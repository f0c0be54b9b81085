pub mod Chains
pub mod Junctions
pub mod Quotients
pub mod Spans
pub mod Variables
