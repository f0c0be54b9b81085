pub mod Shapes
pub mod Structs
pub mod Texts
pub mod Types
