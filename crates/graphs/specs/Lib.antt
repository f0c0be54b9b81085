pub mod Graphs
pub mod Labels
pub mod Leaving
pub mod Orders
pub mod Walking
