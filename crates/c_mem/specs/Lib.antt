pub mod FieldParts
pub mod FieldViews
pub mod Leaving
pub mod MemoryViews
pub mod Marking
pub mod Moving
pub mod Trading
