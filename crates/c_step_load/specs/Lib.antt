pub mod Loading
pub mod Programs
