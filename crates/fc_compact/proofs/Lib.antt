mod ShiftLemmas
mod WholeLemmas
mod OwnersLemmas
mod KeptLemmas
pub mod PreservesLemmas
mod ReadyLemmas
mod RowLemmas
mod SlideLemmas
mod PieceLemmas
mod FindLemmas
pub mod StepLemmas
mod CarryLemmas
mod GatherLemmas
mod DrawnLemmas
mod DrawLemmas
pub mod LeadsLemmas
mod ReleaseLemmas
mod ListedLemmas
mod FoundLemmas
mod OneRunLemmas
mod JoinLemmas
mod TouchLemmas
mod JoinedLemmas
mod RejoinedLemmas
mod HoldLemmas
mod PacksLemmas
mod MergeLemmas
mod SlidLemmas
pub mod GoneLemmas
mod AdjacentLemmas
mod SeenLemmas
mod PassLemmas
mod ZonePassLemmas
mod SideLemmas
mod LongestLemmas
mod CandidatesLemmas
mod SurveyLemmas
