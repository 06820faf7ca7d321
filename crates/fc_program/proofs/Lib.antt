mod FreshLemmas
pub mod WritingLemmas
