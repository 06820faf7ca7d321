mod MapsLemmas
mod OneZoneLemmas
mod MapsOldLemmas
mod MisplacedLemmas
mod OwnersLemmas
mod MountLemmas
mod OpenReadsLemmas
mod ReadingLemmas
mod BlockLemmas
mod CatLemmas
mod FreeLemmas
mod CarryLemmas
mod AgreeLemmas
mod RepairedLemmas
pub mod CompactedLemmas
pub mod VersionLemmas
pub mod StandsLemmas
mod KeepLemmas
mod PieceLemmas
mod CommandLemmas
mod GivingLemmas
mod LostOwnersLemmas
mod LostPlacesLemmas
mod LostStandsLemmas
pub mod LostKeepsLemmas
mod OldWritingLemmas
mod OldChangeLemmas
pub mod CompactingLemmas
pub mod ReaddressLemmas
pub mod NumbersLemmas
pub mod RowsLemmas
mod OldRoomLemmas
mod OldKeepsLemmas
pub mod CompactReadyLemmas
pub mod CompactVolumeLemmas
