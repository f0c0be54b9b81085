pub mod NameLaws
pub mod FormLaws
pub mod ScopeLemmas
pub mod ItemLemmas
pub mod CodeLemmas
pub mod InitialLemmas
pub mod RestLemmas
pub mod PartLemmas
