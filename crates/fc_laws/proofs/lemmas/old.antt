pub mod agree
pub mod takeover
