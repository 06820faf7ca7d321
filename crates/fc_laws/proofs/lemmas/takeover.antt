pub mod KindLemmas
pub mod WriteLemmas
pub mod SaidLemmas
pub mod ApartLemmas
pub mod CopiedBytesLemmas
