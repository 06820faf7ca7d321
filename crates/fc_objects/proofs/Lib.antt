pub mod ExtentLemmas
pub mod AheadLemmas
pub mod BlockLemmas
pub mod CallLemmas
pub mod WriteLemmas
pub mod CopyLemmas
pub mod PassLemmas
