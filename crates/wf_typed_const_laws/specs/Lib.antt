pub mod ArrayLengths
pub mod OneValue
