pub mod BitLemmas
pub mod Folding
pub mod FoldOrder
pub mod FoldSame
pub mod SpellingLemmas
pub mod SpelledRead
pub mod PathLemmas
pub mod PackedLemmas
