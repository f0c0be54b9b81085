pub mod SourceEngines
pub mod Machines
pub mod Sizes
pub mod Told
