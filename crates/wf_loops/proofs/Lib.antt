pub mod AskingLemmas
pub mod LawLemmas
pub mod LoopLemmas
pub mod MappedErrors
pub mod NodeLemmas
