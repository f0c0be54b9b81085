pub mod Makers
pub mod Making
pub mod Products
pub mod Seen
pub mod Shapes
