pub mod CycleLemmas
pub mod MethodLemmas
pub mod SectionLemmas
pub mod StructLemmas
