pub mod Writes
pub mod Places
pub mod Copied
