pub mod Owed
pub mod Changed
pub mod Laws
pub mod Rows
pub mod growth
pub mod old
pub mod Space
