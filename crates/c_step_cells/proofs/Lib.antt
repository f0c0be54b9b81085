pub mod ChainLemmas
