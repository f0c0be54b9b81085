pub mod Capped
pub mod Deciding
pub mod LongArrays
pub mod Orders
pub mod StructSizes
pub mod ValuesBy
pub mod Settings
