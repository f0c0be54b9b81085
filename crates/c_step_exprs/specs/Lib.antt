pub mod Instrs
pub mod Resolving
pub mod Running
pub mod Stacks
pub mod Values
