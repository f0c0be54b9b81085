pub mod BlockLemmas
pub mod Growth
pub mod ResolveLemmas
pub mod StmtLemmas
pub mod WordLemmas
