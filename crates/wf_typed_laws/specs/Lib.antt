pub mod Owners
pub mod PlainNames
pub mod StatusTexts
pub mod ApartNames
