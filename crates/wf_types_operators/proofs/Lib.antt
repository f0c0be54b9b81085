pub mod WorkingLemmas
