pub mod Blocks
pub mod Parts
pub mod Right
pub mod StmtGrowth
