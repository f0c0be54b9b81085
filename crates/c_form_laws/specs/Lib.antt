pub mod CallOrder
pub mod FormLaw
pub mod NameRules
pub mod Places
pub mod StatementRules
pub mod TypeRules
pub mod UnitRules
