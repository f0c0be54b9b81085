pub mod SpeltNodes
