pub mod NameVerdicts
