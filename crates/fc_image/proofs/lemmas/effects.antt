pub mod LeftLemmas
pub mod OneHoleLemmas
pub mod CompactedLemmas
