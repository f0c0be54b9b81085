pub mod FoundPoints
pub mod PointNumbers
