pub mod KnownLaws
pub mod LoaderLaws
pub mod MachineLaws
