pub mod Content
pub mod Copies
pub mod Laws
pub mod New
pub mod Old
pub mod Ready
pub mod Stages
pub mod Steps
