pub mod ArgumentLaws
pub mod ClosedUses
pub mod FoundLemmas
pub mod MeaningLaws
pub mod UseLaws
