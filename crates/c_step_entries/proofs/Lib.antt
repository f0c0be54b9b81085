pub mod EntryLemmas
pub mod StatusLemmas
