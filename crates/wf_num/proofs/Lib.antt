pub mod Bits
pub mod CLaws
pub mod Ends
pub mod ExtremeLaws
pub mod RangeLaws
