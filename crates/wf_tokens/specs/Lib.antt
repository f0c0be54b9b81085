pub mod Gaps
pub mod Numbers
pub mod Pieces
pub mod Places
pub mod Runs
pub mod Spelling
pub mod Symbols
pub mod Words
