pub mod Owed
pub mod Changed
