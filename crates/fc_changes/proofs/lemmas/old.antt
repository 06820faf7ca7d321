pub mod MapLemmas
pub mod HoleLemmas
pub mod PlaceLemmas
pub mod BeforeLemmas
pub mod ChangeLemmas
pub mod GrowthLemmas
pub mod SpaceLemmas
pub mod MadeLemmas
