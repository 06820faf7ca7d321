pub mod RestLemmas
pub mod MapLemmas
