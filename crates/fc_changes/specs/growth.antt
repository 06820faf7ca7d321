pub mod Grown
pub mod Maps
pub mod Rows
