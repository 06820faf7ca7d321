pub mod LineLemmas
pub mod SizeLemmas
