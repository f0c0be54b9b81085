pub mod BlockLemmas
pub mod StatementLemmas
