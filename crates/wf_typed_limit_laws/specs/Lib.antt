pub mod Examples
pub mod FewMethods
pub mod StructBytes
