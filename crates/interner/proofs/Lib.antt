pub mod FoundLemmas
pub mod TableLemmas
pub mod TextLemmas
