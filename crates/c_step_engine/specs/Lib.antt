pub mod Engines
pub mod Statuses
