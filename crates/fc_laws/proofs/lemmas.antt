pub mod nodes
pub mod agree
pub mod takeover
pub mod old
