pub mod Shapes
pub mod Results
pub mod Answering
pub mod Endings
pub mod Calls
