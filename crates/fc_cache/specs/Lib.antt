pub mod Cached
pub mod Sectors
