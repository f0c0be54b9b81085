pub mod Makers
pub mod Making
pub mod Seen
pub mod Shapes
pub mod Statements
