pub mod SearchLemmas
pub mod TwinLemmas
pub mod EditLemmas
