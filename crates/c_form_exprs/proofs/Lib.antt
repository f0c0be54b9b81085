pub mod ArgLemmas
pub mod CallableLemmas
pub mod ClimbLemmas
pub mod FrontLemmas
pub mod GrowLemmas
pub mod ScopeLemmas
pub mod SpineLemmas
pub mod TableLemmas
