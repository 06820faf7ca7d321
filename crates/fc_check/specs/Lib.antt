pub mod Counted
pub mod Space
pub mod Dirs
