pub mod CallLemmas
pub mod CaseLemmas
pub mod FlatLaws
pub mod FunctionLaws
pub mod LabelLemmas
pub mod LineLemmas
pub mod NameLemmas
