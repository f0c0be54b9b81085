pub mod Callable
pub mod Front
pub mod Spines
pub mod Tables
pub mod TypeViews
