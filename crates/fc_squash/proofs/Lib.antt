pub mod SlideLemmas
pub mod PlaceLemmas
pub mod StepLemmas
pub mod ByteLemmas
pub mod StandLemmas
pub mod CarryLemmas
pub mod EndLemmas
pub mod LawLemmas
mod ToldLemmas
pub mod RoomLemmas
