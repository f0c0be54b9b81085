pub mod ExprLaws
pub mod Typing
