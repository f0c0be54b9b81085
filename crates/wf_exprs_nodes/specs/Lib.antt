pub mod Growth
pub mod Marks
pub mod Readers
pub mod Trees
