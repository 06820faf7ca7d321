mod AccessLemmas
mod AskedLemmas
mod ChangeLemmas
mod CommandLemmas
mod CompactLemmas
mod DemoLemmas
mod LineLemmas
mod FreshLemmas
mod HeadlineLemmas
mod KeptLemmas
mod LengthLemmas
mod MapsLemmas
mod OutcomeLemmas
mod PromiseLemmas
mod ReadsLemmas
mod ReclaimLemmas
mod ScriptLemmas
mod ServingLemmas
mod StepLemmas
mod SparesLemmas
mod TurnLemmas
pub mod AnsweredLemmas
pub mod HashLemmas
pub mod BlockLemmas
pub mod DigitLemmas
pub mod ReplyLemmas
pub mod ShortageLemmas
pub mod ToldLemmas
pub mod WritingLemmas
pub mod MovingLemmas
pub mod GettingLemmas
mod PuttingLemmas
mod HostLineLemmas
mod HostServingLemmas
mod HostPromiseLemmas
mod HostKeptLemmas
mod HostHeadlineLemmas
mod SuitsLemmas
mod SafetyLemmas
mod WholePutLemmas
mod NeedLemmas
mod FreeLemmas
mod RunLemmas
mod BackLemmas
mod OwnMapLemmas
mod OldFreeLemmas
pub mod SpaceLemmas
