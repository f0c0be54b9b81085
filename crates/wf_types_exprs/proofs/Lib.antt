pub mod AboveLemmas
pub mod ExprLemmas
pub mod JudgedLaws
pub mod ListLemmas
pub mod TypeLemmas
