pub mod effects
