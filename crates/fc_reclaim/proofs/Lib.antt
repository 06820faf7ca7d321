mod SettledLemmas
pub mod RowLemmas
mod BootLemmas
mod JoinLemmas
mod ChainLemmas
mod PastLemmas
mod SpaceLemmas
mod PassLemmas
mod ReclaimedLemmas
mod OwnedLemmas
mod KeptLemmas
mod ZoneStepLemmas
mod GoneLemmas
pub mod ReclaimsLemmas
pub mod PartsLemmas
mod CopiesLemmas
