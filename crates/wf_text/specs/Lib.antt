pub mod HostActions
pub mod Precedence
pub mod RuleNames
pub mod Seen
pub mod StatusText
pub mod Surface
