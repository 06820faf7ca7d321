pub mod AddressLemmas
pub mod CopyingLemmas
pub mod ExtentLemmas
pub mod LeavingLemmas
mod OtherLemmas
pub mod PlacedLemmas
pub mod PlacesLemmas
pub mod SlackLemmas
pub mod UsedLemmas
pub mod HoleLemmas
pub mod Groups
pub mod Intervals
pub mod LowLemmas
pub mod OpenLemmas
pub mod Searches
pub mod Shares
pub mod TallyLemmas
