pub mod Apart
pub mod Coded
pub mod Scopes
