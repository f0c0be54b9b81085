pub mod DeclarationLemmas
pub mod HeadLemmas
pub mod PackageLemmas
