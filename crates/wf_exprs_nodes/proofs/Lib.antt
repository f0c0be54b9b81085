pub mod ChainLaws
pub mod ComparandLaws
pub mod ConditionLaws
pub mod GivenLaws
pub mod ItemLaws
pub mod KindLaws
pub mod MarkLaws
pub mod Numbered
pub mod OperandLaws
pub mod ReadLaws
pub mod SliceLaws
pub mod ValueLaws
mod WalkLaws
