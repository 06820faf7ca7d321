pub mod After
pub mod Steps
pub mod Nodes
pub mod Writes
pub mod Laws
