pub mod WriteLemmas
pub mod ApartLemmas
pub mod AgainLemmas
