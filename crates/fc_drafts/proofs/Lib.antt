pub mod NamesLemmas
pub mod HeadLemmas
pub mod SizeLemmas
pub mod EditLemmas
pub mod AmendLemmas
pub mod RewritingLemmas
pub mod FindLemmas
pub mod EntryLemmas
