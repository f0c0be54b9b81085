pub mod Places
pub mod TextLaws
pub mod NumberLaws
pub mod Examples
