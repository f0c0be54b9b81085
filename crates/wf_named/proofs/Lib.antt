pub mod DeclLemmas
pub mod ExprLemmas
pub mod PackageLemmas
pub mod ShapeLemmas
pub mod StmtLemmas
