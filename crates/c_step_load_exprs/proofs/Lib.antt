pub mod CodeLemmas
pub mod ExprLemmas
pub mod NameLemmas
pub mod PlaceLemmas
