pub mod DemandLemmas
pub mod FormLaws
pub mod ItemLemmas
pub mod SignatureLemmas
