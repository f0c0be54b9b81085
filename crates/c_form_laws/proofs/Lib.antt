pub mod BreakLaws
pub mod CallLaws
pub mod MarkLaws
pub mod NameLaws
pub mod Places
pub mod StatementLaws
pub mod TypeLaws
pub mod UnitLaws
