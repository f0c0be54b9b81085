pub mod ConstantTables
pub mod DeclSteps
pub mod DeclarationLaws
pub mod LabelLaws
pub mod OwnedLaws
pub mod PairSets
pub mod PassLaws
