pub mod Owners
pub mod Index
pub mod Lists
pub mod Held
