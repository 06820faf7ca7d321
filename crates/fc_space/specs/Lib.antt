pub mod Index
pub mod Space
