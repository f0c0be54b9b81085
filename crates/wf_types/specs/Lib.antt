pub mod Bodies
pub mod DeclaredNodes
pub mod Locals
pub mod Typing
