pub mod growth
pub mod old
