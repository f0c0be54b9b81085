pub mod Bytes
pub mod Copies
pub mod Fitting
pub mod Moved
pub mod Passing
pub mod Stored
pub mod UnsetCells
