pub mod Examples
pub mod LoopLaws
pub mod LoopNodes
pub mod LoopRules
