pub mod Places
pub mod Targets
pub mod Slots
