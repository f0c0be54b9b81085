pub mod Calling
pub mod Kept
pub mod Ordered
pub mod ResolvedForms
pub mod ResolvedScopes
pub mod Unbroken
