pub mod Arena
pub mod Growth
mod Indents
pub mod Items
pub mod Lawful
pub mod Lines
pub mod Links
pub mod Names
pub mod Parts
pub mod Spelled
pub mod SpelledCode
pub mod Trees
