pub mod AcceptedForm
pub mod NamesKept
