pub mod HostCalls
pub mod InitCalls
pub mod SeenRuns
