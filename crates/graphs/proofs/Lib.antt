pub mod NumberLemmas
pub mod LabelLemmas
pub mod OrderLemmas
pub mod TurnLemmas
pub mod WalkLemmas
