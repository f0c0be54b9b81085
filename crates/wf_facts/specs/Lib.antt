pub mod Changes
pub mod Conditions
pub mod Examples
pub mod FactLists
pub mod Forms
pub mod IndexedFacts
pub mod PlainNumbers
