pub mod BodyLemmas
pub mod DeclaredLemmas
pub mod EntryLemmas
pub mod LocalLemmas
pub mod NodePlaces
pub mod PackageLaws
pub mod TypedLaws
