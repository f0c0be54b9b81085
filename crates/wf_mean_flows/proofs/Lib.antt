pub mod RunLaws
pub mod LoopLaws
pub mod SimpleLaws
