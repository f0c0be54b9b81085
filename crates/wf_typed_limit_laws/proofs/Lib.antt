pub mod FieldBytes
pub mod LargeExample
pub mod Methods
pub mod SmallStructs
pub mod StructBytes
