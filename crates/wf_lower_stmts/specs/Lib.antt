pub mod BodyNodes
pub mod Forms
pub mod Laws
pub mod Lower
pub mod Statements
