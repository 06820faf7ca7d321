pub mod Copying
pub mod Extents
pub mod Leaving
pub mod Places
pub mod Slack
pub mod Lows
