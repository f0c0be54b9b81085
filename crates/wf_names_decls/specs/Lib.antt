pub mod ConstantNames
pub mod DeclarationPass
pub mod Gathering
pub mod NameLists
