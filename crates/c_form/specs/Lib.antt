pub mod Demands
pub mod Formed
pub mod Items
pub mod Signatures
