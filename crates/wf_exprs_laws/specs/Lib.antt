pub mod AheadLaw
pub mod ExprLaw
pub mod HelperLaw
