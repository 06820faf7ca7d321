pub mod PlaceLemmas
pub mod CountLemmas
pub mod ListLemmas
pub mod OrderLemmas
pub mod HeldLemmas
