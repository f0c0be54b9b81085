pub mod Headers
pub mod Kinds
pub mod Lexing
pub mod Numbers
pub mod Symbols
pub mod WordLists
