pub mod Kinds
pub mod SourceSeen
