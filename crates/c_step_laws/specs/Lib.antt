pub mod CallChains
pub mod Callees
pub mod ChainText
pub mod Passing
