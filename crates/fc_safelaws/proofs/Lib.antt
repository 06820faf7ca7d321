pub mod PlaceLemmas
pub mod RelaidLemmas
pub mod FreeLemmas
