pub mod FoundLemmas
pub mod WalkLemmas
pub mod AcceptLemmas
mod MakeLemmas
pub mod TreeLemmas
pub mod RisingLemmas
mod ListedLemmas
mod JudgedLemmas
mod ShortLemmas
pub mod DoingLemmas
