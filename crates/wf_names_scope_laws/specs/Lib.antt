pub mod Jumping
pub mod ResolvedExprs
pub mod ResolvedPackages
pub mod ResolvedStmts
pub mod ScopeLaws
pub mod Scoping
