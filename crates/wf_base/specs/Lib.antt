pub mod BaseOps
pub mod BaseTable
pub mod Effects
pub mod HostRun
pub mod LawfulActions
