pub mod Files
pub mod Nodes
pub mod Pieces
pub mod Tokens
