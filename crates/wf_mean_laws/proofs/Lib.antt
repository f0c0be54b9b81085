pub mod AnswerKinds
pub mod Reached
pub mod SeenPackages
pub mod SeenRuns
pub mod StatusRuns
pub mod StatusSteps
pub mod Statuses
