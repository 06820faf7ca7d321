pub mod Draft
pub mod Gains
pub mod Entries
pub mod Rewriting
pub mod Laws
