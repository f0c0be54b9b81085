pub mod Lowered
pub mod Runs
pub mod Sources
pub mod Units
