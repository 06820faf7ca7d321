pub mod TakingLemmas
mod TurningLemmas
mod DraftLemmas
mod PieceLemmas
pub mod PlanLemmas
pub mod LeadsLemmas
mod RoomLemmas
mod ShortageLemmas
mod GrownLemmas
mod SpacesLemmas
mod StepLemmas
mod LeavingsLemmas
pub mod OldCopyLemmas
mod OldTakingLemmas
mod OldGivingLemmas
pub mod PlaceLemmas
mod RefusalLemmas
mod NeedsLemmas
mod ToldLemmas
