pub mod PenLemmas
pub mod Progress
