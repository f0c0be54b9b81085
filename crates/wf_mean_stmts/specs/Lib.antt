pub mod Stages
pub mod Targets
pub mod Entries
pub mod Doings
pub mod Arguments
pub mod Copies
