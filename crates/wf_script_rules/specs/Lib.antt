pub mod Text
pub mod Words
pub mod Names
pub mod Values
pub mod Lines
pub mod Scripts
pub mod Report
pub mod Answers
