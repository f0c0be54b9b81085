pub mod Lending
pub mod Ios
pub mod Spares
pub mod Taking
pub mod Leaving
