pub mod ElaboratedExprs
pub mod ElaboratedPackage
pub mod ElaboratedStmts
pub mod Entries
pub mod ExampleStmts
pub mod Examples
pub mod MeaningTrees
pub mod TypedOrder
