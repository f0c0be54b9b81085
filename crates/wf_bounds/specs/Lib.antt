pub mod Acceptance
pub mod MethodWalks
pub mod WalkAnswers
pub mod WalkNodes
pub mod Walks
