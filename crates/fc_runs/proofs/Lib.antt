pub mod ReadLemmas
pub mod TreeLemmas
pub mod RepliesLemmas
mod HostRepliesLemmas
mod HeadlineLemmas
mod HostHeadlineLemmas
pub mod AskedLemmas
pub mod ToldLemmas
pub mod ErrorLemmas
pub mod StepLemmas
pub mod TextLemmas
pub mod SpaceLemmas
pub mod LeftLemmas
pub mod MeanwhileLemmas
pub mod ModeLemmas
pub mod SafeShortageLemmas
pub mod HostStepLemmas
pub mod HostServingLemmas
