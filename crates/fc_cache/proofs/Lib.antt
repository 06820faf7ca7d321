pub mod CachedLemmas
pub mod KeptLemmas
