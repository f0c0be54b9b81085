pub mod Cycles
pub mod Decided
pub mod KeptOrders
pub mod Large
pub mod Names
pub mod Ranked
pub mod Takes
pub mod Ways
