pub mod Loading
pub mod Machines
