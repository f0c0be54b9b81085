pub mod DeclaringLemmas
pub mod PackageLemmas
pub mod StandingLemmas
