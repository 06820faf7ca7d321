pub mod Fields
pub mod Laws
pub mod Entered
pub mod Twins
