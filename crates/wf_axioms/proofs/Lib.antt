pub mod AxiomTable
pub mod Truth
pub mod Sums
pub mod Comparisons
pub mod LetterLemmas
pub mod ItemLemmas
pub mod Follows
