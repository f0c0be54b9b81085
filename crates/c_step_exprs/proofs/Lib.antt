pub mod Runs
pub mod Skips
pub mod Stacks
pub mod ValueRuns
