pub mod Agreed
pub mod Laws
pub mod Cuts
pub mod Sayable
pub mod Copied
