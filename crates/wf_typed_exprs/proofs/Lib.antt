pub mod AroundLaws
pub mod ChainLaws
pub mod EntryLemmas
pub mod FormLaws
pub mod GrowthLemmas
pub mod PushLemmas
pub mod WalkLemmas
pub mod WidthLemmas
