pub mod MapLemmas
pub mod RootLemmas
