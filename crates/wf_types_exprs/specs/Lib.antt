pub mod Above
pub mod Found
pub mod Judged
pub mod Paths
