pub mod AlikeLaws
pub mod ByteLaws
pub mod Growing
pub mod Prefixes
pub mod RatedLaws
