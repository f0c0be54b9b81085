pub mod Lawful
pub mod Sights
pub mod Driving
