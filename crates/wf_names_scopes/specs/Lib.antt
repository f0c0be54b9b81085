pub mod Agreeing
pub mod CallRows
pub mod Growing
pub mod UsesFound
