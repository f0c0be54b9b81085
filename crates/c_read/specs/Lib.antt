pub mod Machines
pub mod Reading
