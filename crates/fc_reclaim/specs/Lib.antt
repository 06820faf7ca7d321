pub mod Boot
pub mod Lost
pub mod Zone
pub mod Settled
pub mod Kept
pub mod Map
pub mod Reclaiming
