pub mod Extents
pub mod Ahead
pub mod Bytes
pub mod Calls
pub mod Copied
pub mod Written
