pub mod DecidingLemmas
pub mod NamingLemmas
