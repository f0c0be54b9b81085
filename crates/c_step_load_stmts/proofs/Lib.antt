pub mod CodeLemmas
pub mod LabelLemmas
pub mod StepLemmas
pub mod TaskLemmas
