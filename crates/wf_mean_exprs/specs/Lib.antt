pub mod Conditions
pub mod MachineState
pub mod Operands
pub mod Questions
