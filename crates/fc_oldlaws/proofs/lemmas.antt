pub mod moves
