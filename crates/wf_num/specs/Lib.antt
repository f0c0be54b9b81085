pub mod CArithmetic
pub mod Extremes
pub mod Ranges
pub mod Spans
pub mod Trials
