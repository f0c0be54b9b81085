pub mod LoopLemmas
pub mod NumberLemmas
pub mod OnceLemmas
pub mod PointLemmas
pub mod StatementArena
