pub mod FirstBreakLaws
pub mod TypeRows
