pub mod Parts
pub mod Plan
pub mod Supply
pub mod Taking
pub mod Giving
pub mod Beginnings
pub mod Laws
pub mod Applied
