pub mod SizeLemmas
pub mod SizeSteps
