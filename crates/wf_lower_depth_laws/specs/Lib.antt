pub mod DepthLaws
pub mod Examples
pub mod NamedDepth
pub mod WrittenDepth
