pub mod Free
pub mod Relaid
