pub mod Near
pub mod Weights
