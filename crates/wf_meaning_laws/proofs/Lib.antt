pub mod Disabled
pub mod Cores
pub mod Steps
pub mod Admissions
pub mod Started
pub mod Moves
pub mod ActiveCalls
pub mod ActiveStates
