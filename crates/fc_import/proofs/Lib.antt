pub mod PieceLemmas
pub mod ImportLemmas
